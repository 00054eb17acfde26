-- What a writer adds to a text.
use Rattle.std.specs.Prelude.{ℕ, List, [], ◌∷◌, ◌≡◌, ◌++◌}
use Rattle.casm_text.specs.Statements.{Cell, Operand, Piece, token, space, Statement, cell_then, operand_then, text_in, statement_text}

-- the text went on by these pieces, whatever pieces follow them
abbrev pub Puts : List ℕ → List ℕ → (List Piece → List Piece) → Type 0
Puts before after pieces = (rest : List Piece) → after ++ text_in rest ≡ before ++ text_in (pieces rest)

-- a cell, a sign between spaces, and an operand
abbrev pub joined_then : Cell → List ℕ → Operand → List Piece → List Piece
joined_then c sign x rest = cell_then c (space ∷ token sign ∷ space ∷ operand_then x rest)

-- the text went on by a statement and the end of its line
abbrev pub PutsLine : List ℕ → List ℕ → Statement → Type 0
PutsLine before after s = after ≡ before ++ (statement_text s ++ (10 ∷ []))
