-- What a line of a script is (docs/SERVICE.md). A line is the fields that spaces cut it into.
use Rattle.std.specs.Prelude.{◌≡◌, ℕ, ◌<◌, ◌==◌, List, [], ◌∷◌, length, map, bytes_eq, codes, decimal, Option, Some, None, Ok, if◌then◌else◌}
use Rattle.std.specs.List.{AllByRecursion, AllPass, slice_split}
use Rattle.builtin_hash.specs.Programs.{hash_digits, words_in_text}
use Rattle.cairo_model.specs.Pie.Acceptance.{FactRecord}
use Rattle.goldi_field.specs.Numbers.{IsFelt}
use Rattle.hex.specs.Hex.{decode_of, is_hex_digit}
use Rattle.desk_script.specs.Limits.{job_limit}
use Rattle.desk_script.specs.declared.verb.Verb.{Verb}
use Rattle.desk_script.specs.declared.verb.Verb.TheVariants.{Submit, Ask, Status, Settle}

-- a line's client, and what it hands in or asks
pub data ScriptLine : Type 0 where
  submits : ℕ → List ℕ → ScriptLine
  asks : ℕ → FactRecord → ScriptLine
  asks_status : ℕ → ℕ → ScriptLine
  settles : ℕ → ScriptLine

-- what stands between the spaces of a line: one field more than it has spaces, each of which may be empty
abbrev pub line_fields : List ℕ → List (List ℕ)
line_fields text = slice_split (λ c. c == 32) text

-- the verb that these bytes are, if they are one
abbrev pub verb_of : List ℕ → Option Verb
verb_of text =
    if bytes_eq text (codes "submit") then Some Submit
    else if bytes_eq text (codes "ask") then Some Ask
    else if bytes_eq text (codes "status") then Some Status
    else if bytes_eq text (codes "settle") then Some Settle
    else None

-- 64 hexadecimal digits of either case
abbrev pub IsHash : List ℕ → Type 0
IsHash field = (length field ≡ hash_digits) × AllPass is_hex_digit field

-- The fields are this line. Numbers are written in decimal and with no leading zero; hexadecimal digits may be of either case.
abbrev pub IsScriptLine : ℕ → List (List ℕ) → ScriptLine → Type 0
IsScriptLine clients fields (submits client bytes) =
    (client < clients) × ((digits : List ℕ) × (decode_of digits ≡ Ok bytes) × (fields ≡ codes "submit" ∷ decimal client ∷ digits ∷ []))
IsScriptLine clients fields (asks client fact) =
    (client < clients) × AllByRecursion IsFelt fact.outputs
    × ((hash : List ℕ) × IsHash hash × (fact.program ≡ words_in_text hash) × (fields ≡ codes "ask" ∷ decimal client ∷ hash ∷ map decimal fact.outputs))
IsScriptLine clients fields (asks_status client number) =
    (client < clients) × (number < job_limit) × (fields ≡ codes "status" ∷ decimal client ∷ decimal number ∷ [])
IsScriptLine clients fields (settles client) = (client < clients) × (fields ≡ codes "settle" ∷ decimal client ∷ [])
