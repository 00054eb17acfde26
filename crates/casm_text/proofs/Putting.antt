-- A text that goes on by one piece after the other.
use Rattle.casm_text.specs.Statements.{Offset, Cell, Piece, token, offset_then, cell_then, source_then, double, register_name, text_in}
use Rattle.casm_text.specs.Working.Writing.{Puts}
use Rattle.cairo_word.specs.declared.word.Reg.{Reg}
use Rattle.std.proofs.Common.{◌≡◌, ℕ, List, ◌∷◌, ◌++◌, ap, ◌∙◌, append_assoc}
use Rattle.std.specs.Prelude.{codes}

pushed : (before after w : List ℕ) (rest : List Piece) → after ≡ before ++ w → after ++ text_in rest ≡ before ++ text_in (token w ∷ rest)
pushed before after w rest h = ap (λ (l : List ℕ). l ++ text_in rest) h ∙ append_assoc before w (text_in rest)

pub puts_cell : (r : Reg) (o : Offset) (a b c d e : List ℕ) → b ≡ a ++ codes "[" → c ≡ b ++ register_name r → Puts c d (offset_then o) → e ≡ d ++ codes "]" → Puts a e (cell_then (record { register = r; offset = o }))
puts_cell r o a b c d e opened named offset closed = λ rest.
    pushed d e (codes "]") rest closed
    ∙ (offset (token (codes "]") ∷ rest)
    ∙ (pushed b c (register_name r) (offset_then o (token (codes "]") ∷ rest)) named
    ∙ pushed a b (codes "[") (token (register_name r) ∷ offset_then o (token (codes "]") ∷ rest)) opened))

pub puts_double : (x : Cell) (o : Offset) (a b c d e : List ℕ) → b ≡ a ++ codes "[" → Puts b c (cell_then x) → Puts c d (offset_then o) → e ≡ d ++ codes "]" → Puts a e (source_then (double x o))
puts_double x o a b c d e opened cell offset closed = λ rest.
    pushed d e (codes "]") rest closed
    ∙ (offset (token (codes "]") ∷ rest)
    ∙ (cell (offset_then o (token (codes "]") ∷ rest))
    ∙ pushed a b (codes "[") (cell_then x (offset_then o (token (codes "]") ∷ rest))) opened))
