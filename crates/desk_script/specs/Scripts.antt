-- What a script is, and which of its lines is the first bad one (docs/SERVICE.md).
use Rattle.std.specs.Prelude.{◌≡◌, ◌≢◌, ℕ, suc, ◌<◌, ◌≤◌, ◌==◌, List, [], ◌∷◌, length, drop, get_or, decimal, Option, Some, None, Ok, ⊤, ◌⊎◌}
use Rattle.std.specs.List.{AllByRecursion, slice_split}
use Rattle.cairo_model.specs.Refusals.FirstFailing.{IsFirstFailing}
use Rattle.goldi_field.specs.Numbers.{prime}
use Rattle.hex.specs.Hex.{decode_of}
use Rattle.desk_script.specs.Limits.{job_limit, most_lines}
use Rattle.desk_script.specs.Lines.{ScriptLine, IsHash, IsScriptLine, line_fields, verb_of}
use Rattle.desk_script.specs.declared.kinds.ScriptKind.{ScriptKind}
use Rattle.desk_script.specs.declared.kinds.ScriptKind.TheVariants as kind
use Rattle.desk_script.specs.declared.kinds.ScriptRefusal.{ScriptRefusal}
use Rattle.desk_script.specs.declared.verb.Verb.{Verb}
use Rattle.desk_script.specs.declared.verb.Verb.TheVariants.{Submit, Ask, Status, Settle}

-- what line feeds cut the bytes into; what follows the last of them is no line where it is empty
abbrev pub pieces_of : List ℕ → List (List ℕ)
pieces_of bytes = slice_split (λ c. c == 10) bytes

-- each piece but the last is such a line, and the last is empty
abbrev pub AreScriptLines : ℕ → List (List ℕ) → List ScriptLine → Type 0
AreScriptLines clients [] lines = ⊥
AreScriptLines clients (last ∷ []) lines = (last ≡ []) × (lines ≡ [])
AreScriptLines clients (text ∷ next ∷ more) lines =
    (line : ScriptLine) × (rest : List ScriptLine) × (lines ≡ line ∷ rest) × IsScriptLine clients (line_fields text) line × AreScriptLines clients (next ∷ more) rest

-- the bytes are the script of these lines
abbrev pub IsScript : ℕ → List ℕ → List ScriptLine → Type 0
IsScript clients bytes lines = AreScriptLines clients (pieces_of bytes) lines × (length lines ≤ most_lines)

-- ---- what is asked of the fields of a line

-- the field is the decimal of a number below the limit
abbrev pub IsNumberBelow : ℕ → List ℕ → Type 0
IsNumberBelow limit field = (n : ℕ) × (n < limit) × (field ≡ decimal n)

-- how many fields a line with this verb has
abbrev pub HasCount : Option Verb → ℕ → Type 0
HasCount (Some Submit) count = count ≡ 3
HasCount (Some Ask) count = 3 ≤ count
HasCount (Some Status) count = count ≡ 3
HasCount (Some Settle) count = count ≡ 2
HasCount None count = ⊤

-- what the third field of a line with this verb is in hexadecimal
abbrev pub HasHex : Option Verb → List ℕ → Type 0
HasHex (Some Submit) field = (bytes : List ℕ) × (decode_of field ≡ Ok bytes)
HasHex (Some Ask) field = IsHash field
HasHex (Some Status) field = ⊤
HasHex (Some Settle) field = ⊤
HasHex None field = ⊤

-- which fields of a line with this verb are numbers, by the fields from the third on
abbrev pub HasNumbers : Option Verb → List (List ℕ) → Type 0
HasNumbers (Some Submit) fields = ⊤
HasNumbers (Some Ask) fields = AllByRecursion (IsNumberBelow prime) (drop 1 fields)
HasNumbers (Some Status) fields = IsNumberBelow job_limit (get_or fields 0 [])
HasNumbers (Some Settle) fields = ⊤
HasNumbers None fields = ⊤

-- the fields of a line keep the rule of this kind
abbrev pub FieldsKeep : ℕ → List (List ℕ) → ScriptKind → Type 0
FieldsKeep clients fields kind.NoEnd = ⊤
FieldsKeep clients fields kind.Verb = verb_of (get_or fields 0 []) ≢ None
FieldsKeep clients fields kind.Fields = HasCount (verb_of (get_or fields 0 [])) (length fields)
FieldsKeep clients fields kind.Client = IsNumberBelow clients (get_or fields 1 [])
FieldsKeep clients fields kind.Hex = HasHex (verb_of (get_or fields 0 [])) (get_or fields 2 [])
FieldsKeep clients fields kind.Number = HasNumbers (verb_of (get_or fields 0 [])) (drop 2 fields)
FieldsKeep clients fields kind.TooMany = ⊤

-- ---- the first bad line

-- the numbers of the kinds
abbrev pub kind_number : ScriptKind → ℕ
kind_number kind.NoEnd = 1
kind_number kind.Verb = 2
kind_number kind.Fields = 3
kind_number kind.Client = 4
kind_number kind.Hex = 5
kind_number kind.Number = 6
kind_number kind.TooMany = 7

-- the piece of this index is a line
abbrev pub IsLineAt : List (List ℕ) → ℕ → Type 0
IsLineAt pieces k = (suc k < length pieces) ⊎ (get_or pieces k [] ≢ [])

-- the line of this index keeps the rule of this kind: a line feed ends it, or it is one of so many, or its fields keep it
abbrev pub LineKeeps : ℕ → List (List ℕ) → ℕ → ScriptKind → Type 0
LineKeeps clients pieces k kind.NoEnd = suc k < length pieces
LineKeeps clients pieces k kind.Verb = FieldsKeep clients (line_fields (get_or pieces k [])) kind.Verb
LineKeeps clients pieces k kind.Fields = FieldsKeep clients (line_fields (get_or pieces k [])) kind.Fields
LineKeeps clients pieces k kind.Client = FieldsKeep clients (line_fields (get_or pieces k [])) kind.Client
LineKeeps clients pieces k kind.Hex = FieldsKeep clients (line_fields (get_or pieces k [])) kind.Hex
LineKeeps clients pieces k kind.Number = FieldsKeep clients (line_fields (get_or pieces k [])) kind.Number
LineKeeps clients pieces k kind.TooMany = k < most_lines

abbrev pub IsGoodLine : ℕ → List (List ℕ) → ℕ → Type 0
IsGoodLine clients pieces k = (kind : ScriptKind) → LineKeeps clients pieces k kind

-- the line of this index breaks the rule of this kind, and none of a lower number
pub record BreaksFirst (clients : ℕ) (pieces : List (List ℕ)) (k : ℕ) (kind : ScriptKind) : Type 0 where
  pub breaks : ¬ LineKeeps clients pieces k kind
  pub keeps_before : (other : ScriptKind) → kind_number other < kind_number kind → LineKeeps clients pieces k other

-- of the lines, this one (counted from 1) is the first bad one, and this is the first rule that it breaks
pub record IsFirstBadScriptLine (clients : ℕ) (bytes : List ℕ) (r : ScriptRefusal) : Type 0 where
  pub index : ℕ
  pub counted : r.line ≡ suc index
  pub first : IsFirstFailing (IsLineAt (pieces_of bytes)) (IsGoodLine clients (pieces_of bytes)) index
  pub breaks : BreaksFirst clients (pieces_of bytes) index r.kind
