-- What the lines of a text are, where its labels stand, and the code that it gives (docs/ASSEMBLY.md).
use Rattle.std.specs.Prelude.{ℕ, zero, suc, ◌+◌, Bool, true, false, List, [], ◌∷◌, ◌++◌, ◌≡◌, Option, Some, None, codes, bytes_eq, length, if◌then◌else◌, unwrap_or}
use Rattle.casm_text.specs.Tokens.{AreTokens, before_comment}
use Rattle.casm_text.specs.Statements.{Statement, tokens_of, is_spelled, is_name}
use Rattle.casm_text.specs.Words.{GivesWords, statement_fields, statement_numbers}
use Rattle.cairo_word.specs.Word.{Fields}

-- an empty line, a label, or a statement
pub data Line : Type 0 where
  empty_line : Line
  label_line : List ℕ → Line
  statement_line : Statement → Line

-- the tokens of a line spell it; at most one line has these tokens (a law)
abbrev pub Spells : List (List ℕ) → Line → Type 0
Spells tokens empty_line = tokens ≡ []
Spells tokens (label_line name) = (tokens ≡ name ∷ codes ":" ∷ []) × (is_name name ≡ true)
Spells tokens (statement_line s) = (tokens ≡ tokens_of s) × (is_spelled s ≡ true)

-- the bytes are this line, whatever spaces stand between its tokens and whatever comment after them
abbrev pub IsLine : List ℕ → Line → Type 0
IsLine bytes line = (tokens : List (List ℕ)) × AreTokens (before_comment bytes) tokens × Spells tokens line

-- each line of a text, one after the other
abbrev pub AreLines : List (List ℕ) → List Line → Type 0
AreLines [] lines = lines ≡ []
AreLines (bytes ∷ more) lines = (line : Line) × (rest : List Line) × (lines ≡ line ∷ rest) × IsLine bytes line × AreLines more rest

-- ---- offsets

-- an instruction is one word
abbrev pub fields_count : Option Fields → ℕ
fields_count None = 0
fields_count (Some f) = 1

-- the words that a statement gives, in number
abbrev pub statement_size : Statement → ℕ
statement_size s = fields_count (statement_fields s) + length (statement_numbers s)

-- the words that a line gives, in number
abbrev pub line_size : Line → ℕ
line_size empty_line = 0
line_size (label_line name) = 0
line_size (statement_line s) = statement_size s

-- the offset at which the line of this index begins, the first at this one
abbrev pub offset_at : ℕ → List Line → ℕ → ℕ
offset_at at [] index = at
offset_at at (line ∷ lines) zero = at
offset_at at (line ∷ lines) (suc index) = offset_at (at + line_size line) lines index

-- whether the line is the label of this name
abbrev pub is_label : List ℕ → Line → Bool
is_label name (label_line other) = bytes_eq other name
is_label name empty_line = false
is_label name (statement_line s) = false

-- the offset at which a label stands first
abbrev pub label_at : ℕ → List Line → List ℕ → Option ℕ
label_at at [] name = None
label_at at (line ∷ lines) name = if is_label name line then Some at else label_at (at + line_size line) lines name

-- the offset that the name stands for, 0 where no line sets it
abbrev pub label_offset : List Line → List ℕ → ℕ
label_offset lines name = unwrap_or (label_at 0 lines name) 0

-- ---- code

-- the lines from one at this offset on give these words
abbrev pub GivesFrom : (List ℕ → ℕ) → ℕ → List Line → List ℕ → Type 0
GivesFrom offset_of at [] words = words ≡ []
GivesFrom offset_of at (empty_line ∷ lines) words = GivesFrom offset_of at lines words
GivesFrom offset_of at (label_line name ∷ lines) words = GivesFrom offset_of at lines words
GivesFrom offset_of at (statement_line s ∷ lines) words =
    (first : List ℕ) × (rest : List ℕ) × (words ≡ first ++ rest) × GivesWords offset_of at s first × GivesFrom offset_of (at + statement_size s) lines rest

-- the main entry is the label `main`, else 0
abbrev pub main_of : List Line → ℕ
main_of lines = label_offset lines (codes "main")

-- the lines give these words, and this main entry
abbrev pub GivesCode : List Line → List ℕ → ℕ → Type 0
GivesCode lines words main = GivesFrom (label_offset lines) 0 lines words × (main ≡ main_of lines)
