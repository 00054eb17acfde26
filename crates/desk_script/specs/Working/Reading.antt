-- Reading the fields of a line.
use denote.Ref.{Bor}
use Rattle.std.specs.Prelude.{ℕ, ◌==◌, ◌&&◌, List, [], ◌∷◌, ◌++◌, length, Option, Some, None, option_map, Result, Ok, Err, if◌then◌else◌}
use Rattle.std.specs.List.{list_all, slice_split}
use Rattle.std.specs.Result.{result_ok}
use Rattle.builtin_hash.specs.Programs.{hash_digits, words_in_text}
use Rattle.cairo_model.specs.Machine.Steps.{◌>>=◌, required}
use Rattle.goldi_field.specs.Numbers.{prime}
use Rattle.hex.specs.Hex.{decode_of, is_hex_digit}
use Rattle.desk_script.specs.Limits.{job_limit}
use Rattle.desk_script.specs.Lines.{ScriptLine, submits, asks, asks_status, settles, verb_of}
use Rattle.desk_script.specs.Working.Numbers.{number_in}
use Rattle.desk_script.specs.declared.kinds.ScriptKind.{ScriptKind}
use Rattle.desk_script.specs.declared.kinds.ScriptKind.TheVariants as kind
use Rattle.desk_script.specs.declared.verb.Verb.{Verb}
use Rattle.desk_script.specs.declared.verb.Verb.TheVariants.{Submit, Ask, Status, Settle}

-- the parts of what is left of a text, if anything is
abbrev pub parts_left : ℕ → Option (Bor (List ℕ)) → List (List ℕ)
parts_left separator None = []
parts_left separator (Some rest) = slice_split (λ c. c == separator) rest.now

-- just one field, just two
abbrev pub one_in : List (List ℕ) → Option (List ℕ)
one_in [] = None
one_in (a ∷ []) = Some a
one_in (a ∷ b ∷ more) = None

abbrev pub two_in : List (List ℕ) → Option (List ℕ × List ℕ)
two_in [] = None
two_in (a ∷ more) = option_map (λ b. (a, b)) (one_in more)

-- the bytes that hexadecimal digits are
abbrev pub bytes_in : List ℕ → Result (List ℕ) ScriptKind
bytes_in field = required kind.Hex (result_ok (decode_of field))

-- the words of a hash
abbrev pub hash_in : List ℕ → Option (List ℕ)
hash_in field = if (length field == hash_digits) && list_all is_hex_digit field then Some (words_in_text field) else None

-- the field numbers that these fields are
abbrev pub numbers_in : List (List ℕ) → Result (List ℕ) ScriptKind
numbers_in [] = Ok []
numbers_in (field ∷ fields) = do
  number ← required kind.Number (number_in prime field)
  numbers ← numbers_in fields
  Ok (number ∷ numbers)

-- the same numbers after these, where there are any
abbrev pub with_front : List ℕ → Result (List ℕ) ScriptKind → Result (List ℕ) ScriptKind
with_front front numbers = do
  more ← numbers
  Ok (front ++ more)

-- ---- lines, by the fields after the verb

unfoldable pub read_submit : ℕ → List (List ℕ) → Result ScriptLine ScriptKind
read_submit clients fields = do
  both ← required kind.Fields (two_in fields)
  client ← required kind.Client (number_in clients both.0)
  bytes ← bytes_in both.1
  Ok (submits client bytes)

-- the first field, the second, and those that follow
pub record AskFields : Type 0 where
  pub client : List ℕ
  pub hash : List ℕ
  pub outputs : List (List ℕ)

abbrev pub ask_fields : List (List ℕ) → Option AskFields
ask_fields [] = None
ask_fields (client ∷ []) = None
ask_fields (client ∷ hash ∷ outputs) = Some (record { client = client; hash = hash; outputs = outputs })

unfoldable pub read_ask : ℕ → List (List ℕ) → Result ScriptLine ScriptKind
read_ask clients fields = do
  parts ← required kind.Fields (ask_fields fields)
  client ← required kind.Client (number_in clients parts.client)
  program ← required kind.Hex (hash_in parts.hash)
  outputs ← numbers_in parts.outputs
  Ok (asks client (record { program = program; outputs = outputs }))

unfoldable pub read_status : ℕ → List (List ℕ) → Result ScriptLine ScriptKind
read_status clients fields = do
  both ← required kind.Fields (two_in fields)
  client ← required kind.Client (number_in clients both.0)
  number ← required kind.Number (number_in job_limit both.1)
  Ok (asks_status client number)

unfoldable pub read_settle : ℕ → List (List ℕ) → Result ScriptLine ScriptKind
read_settle clients fields = do
  field ← required kind.Fields (one_in fields)
  client ← required kind.Client (number_in clients field)
  Ok (settles client)

abbrev pub read_as : ℕ → Option Verb → List (List ℕ) → Result ScriptLine ScriptKind
read_as clients (Some Submit) fields = read_submit clients fields
read_as clients (Some Ask) fields = read_ask clients fields
read_as clients (Some Status) fields = read_status clients fields
read_as clients (Some Settle) fields = read_settle clients fields
read_as clients None fields = Err kind.Verb

abbrev pub read_line : ℕ → List (List ℕ) → Result ScriptLine ScriptKind
read_line clients [] = Err kind.Verb
read_line clients (verb ∷ fields) = read_as clients (verb_of verb) fields
