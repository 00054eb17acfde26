-- The statements of the assembly language, as they are spelled (docs/ASSEMBLY.md).
use Rattle.std.specs.Prelude.{ℕ, Bool, true, false, not, ◌&&◌, List, [], ◌∷◌, ◌++◌, codes, bytes_eq}
use Rattle.std.specs.List.{list_any, list_all}
use Rattle.cairo_word.specs.declared.word.Reg.{Reg}
use Rattle.cairo_word.specs.declared.word.Reg.TheVariants.{Ap, Fp}
use Rattle.casm_text.specs.Tokens.{begins_with_letter, is_digits, is_name_byte}

-- numbers are kept as their digits, so that a statement has one list of tokens
pub data Offset : Type 0 where
  none : Offset
  plus : List ℕ → Offset
  minus : List ℕ → Offset

-- a number, or `-` and a number
pub data Numeral : Type 0 where
  positive : List ℕ → Numeral
  negative : List ℕ → Numeral

-- `[ap]`, `[fp+2]`, `[ap-1]`
pub record Cell : Type 0 where
  pub register : Reg
  pub offset : Offset

-- a cell or a number
pub data Operand : Type 0 where
  cell : Cell → Operand
  numeral : Numeral → Operand

-- the right side of `=`
pub data Source : Type 0 where
  copy : Operand → Source
  double : Cell → Offset → Source
  sum : Cell → Operand → Source
  product : Cell → Operand → Source

-- where a relative jump goes
pub data Aim : Type 0 where
  by : Operand → Aim
  label : List ℕ → Aim

-- the flag says whether `, ap++` stands at the end
pub data Statement : Type 0 where
  assert : Cell → Source → Bool → Statement
  jump : Aim → Bool → Statement
  jump_abs : Operand → Bool → Statement
  jump_if : Aim → Cell → Bool → Statement
  call : Aim → Statement
  call_abs : Operand → Statement
  ret : Statement
  add_ap : Operand → Statement
  word : Numeral → Statement

-- ---- spelling: the tokens of a statement, and the spaces that a listing has between them

-- a token, or a space that a listing has there
pub data Piece : Type 0 where
  token : List ℕ → Piece
  space : Piece

-- each puts its pieces before those of what follows it

-- a sign and digits, or nothing
abbrev pub offset_then : Offset → List Piece → List Piece
offset_then none rest = rest
offset_then (plus digits) rest = token (codes "+") ∷ token digits ∷ rest
offset_then (minus digits) rest = token (codes "-") ∷ token digits ∷ rest

-- digits, with `-` before a negative number
abbrev pub numeral_then : Numeral → List Piece → List Piece
numeral_then (positive digits) rest = token digits ∷ rest
numeral_then (negative digits) rest = token (codes "-") ∷ token digits ∷ rest

-- how a register is called
abbrev pub register_name : Reg → List ℕ
register_name Ap = codes "ap"
register_name Fp = codes "fp"

-- `[`, the register, the offset, `]`
abbrev pub cell_then : Cell → List Piece → List Piece
cell_then c rest = token (codes "[") ∷ token (register_name c.register) ∷ offset_then c.offset (token (codes "]") ∷ rest)

-- a cell or a number
abbrev pub operand_then : Operand → List Piece → List Piece
operand_then (cell c) rest = cell_then c rest
operand_then (numeral n) rest = numeral_then n rest

-- the right side of `=`
abbrev pub source_then : Source → List Piece → List Piece
source_then (copy x) rest = operand_then x rest
source_then (double c k) rest = token (codes "[") ∷ cell_then c (offset_then k (token (codes "]") ∷ rest))
source_then (sum c x) rest = cell_then c (space ∷ token (codes "+") ∷ space ∷ operand_then x rest)
source_then (product c x) rest = cell_then c (space ∷ token (codes "*") ∷ space ∷ operand_then x rest)

-- `rel` and an operand, or a name
abbrev pub aim_then : Aim → List Piece → List Piece
aim_then (by x) rest = token (codes "rel") ∷ space ∷ operand_then x rest
aim_then (label name) rest = token name ∷ rest

-- `, ap++` at the end of a statement
abbrev pub step_pieces : Bool → List Piece
step_pieces true = token (codes ",") ∷ space ∷ token (codes "ap") ∷ token (codes "++") ∷ []
step_pieces false = []

-- the whole statement
abbrev pub statement_pieces : Statement → List Piece
statement_pieces (assert c s step) = cell_then c (space ∷ token (codes "=") ∷ space ∷ source_then s (step_pieces step))
statement_pieces (jump a step) = token (codes "jmp") ∷ space ∷ aim_then a (step_pieces step)
statement_pieces (jump_abs x step) = token (codes "jmp") ∷ space ∷ token (codes "abs") ∷ space ∷ operand_then x (step_pieces step)
statement_pieces (jump_if a c step) =
    token (codes "jmp") ∷ space ∷ aim_then a (space ∷ token (codes "if") ∷ space ∷ cell_then c (space ∷ token (codes "!=") ∷ space ∷ token (codes "0") ∷ step_pieces step))
statement_pieces (call a) = token (codes "call") ∷ space ∷ aim_then a []
statement_pieces (call_abs x) = token (codes "call") ∷ space ∷ token (codes "abs") ∷ space ∷ operand_then x []
statement_pieces ret = token (codes "ret") ∷ []
statement_pieces (add_ap x) = token (codes "ap") ∷ space ∷ token (codes "+=") ∷ space ∷ operand_then x []
statement_pieces (word n) = token (codes "word") ∷ space ∷ numeral_then n []

-- the tokens among the pieces
abbrev pub tokens_in : List Piece → List (List ℕ)
tokens_in [] = []
tokens_in (token t ∷ ps) = t ∷ tokens_in ps
tokens_in (space ∷ ps) = tokens_in ps

-- the bytes of the pieces one after the other
abbrev pub text_in : List Piece → List ℕ
text_in [] = []
text_in (token t ∷ ps) = t ++ text_in ps
text_in (space ∷ ps) = 32 ∷ text_in ps

-- the tokens that spell a statement, whatever spaces stand between them
abbrev pub tokens_of : Statement → List (List ℕ)
tokens_of s = tokens_in (statement_pieces s)

-- its text in a listing
abbrev pub statement_text : Statement → List ℕ
statement_text s = text_in (statement_pieces s)

-- ---- digits and names

-- the words that are no names
abbrev pub grammar_words : List (List ℕ)
grammar_words = codes "ap" ∷ codes "fp" ∷ codes "jmp" ∷ codes "rel" ∷ codes "abs" ∷ codes "if" ∷ codes "call" ∷ codes "ret" ∷ codes "word" ∷ []

-- a letter, then letters, digits and `_`, and no word of the grammar
abbrev pub is_name : List ℕ → Bool
is_name t = begins_with_letter t && (list_all is_name_byte t && not (list_any (bytes_eq t) grammar_words))

-- ---- a statement is well spelled: its numbers are digits, and its label is a name

-- an offset's digits are digits
abbrev pub offset_spelled : Offset → Bool
offset_spelled none = true
offset_spelled (plus ds) = is_digits ds
offset_spelled (minus ds) = is_digits ds

-- a number's digits are digits
abbrev pub numeral_spelled : Numeral → Bool
numeral_spelled (positive ds) = is_digits ds
numeral_spelled (negative ds) = is_digits ds

-- so are those of an operand
abbrev pub operand_spelled : Operand → Bool
operand_spelled (cell c) = offset_spelled c.offset
operand_spelled (numeral n) = numeral_spelled n

-- so are those of a right side
abbrev pub source_spelled : Source → Bool
source_spelled (copy x) = operand_spelled x
source_spelled (double c k) = offset_spelled c.offset && offset_spelled k
source_spelled (sum c x) = offset_spelled c.offset && operand_spelled x
source_spelled (product c x) = offset_spelled c.offset && operand_spelled x

-- a label is a name
abbrev pub aim_spelled : Aim → Bool
aim_spelled (by x) = operand_spelled x
aim_spelled (label name) = is_name name

-- a whole statement is well spelled
abbrev pub is_spelled : Statement → Bool
is_spelled (assert c s step) = offset_spelled c.offset && source_spelled s
is_spelled (jump a step) = aim_spelled a
is_spelled (jump_abs x step) = operand_spelled x
is_spelled (jump_if a c step) = aim_spelled a && offset_spelled c.offset
is_spelled (call a) = aim_spelled a
is_spelled (call_abs x) = operand_spelled x
is_spelled ret = true
is_spelled (add_ap x) = operand_spelled x
is_spelled (word n) = numeral_spelled n
