-- A statement has at most twenty tokens, so that a line with more is none, whichever follow.
use Rattle.casm_text.specs.Statements.{Piece, token, space, Offset, none, plus, minus, Numeral, positive, negative, Cell, Operand, cell, numeral, Source, copy, double, sum, product, Aim, by, label, Statement, assert, jump, jump_abs, jump_if, call, call_abs, ret, add_ap, word, tokens_in, tokens_of, offset_then, numeral_then, cell_then, operand_then, source_then, aim_then, step_pieces}
use Rattle.std.proofs.Common.{◌≡◌, ℕ, ◌+◌, ◌<◌, ◌≤◌, Bool, true, false, inl, inr, List, [], ◌∷◌, length, take, Option, Some, None, refl, ap, sym, ◌∙◌, arith}
use Rattle.std.specs.Prelude.{codes}
use Rattle.std.proofs.lemmas.Bool.{cases_lt}
use Rattle.std.proofs.lemmas.List.{length-take, take_all}
use Rattle.casm_text.proofs.OneLine.{read_line}
use Rattle.casm_text.proofs.Sound.{On}
use Rattle.casm_text.specs.Lines.{Line, empty_line, label_line, statement_line, Spells}
use Rattle.casm_text.specs.Working.Parsing.{line_in}

abbrev count : List Piece → ℕ
count ps = length (tokens_in ps)

short_offset : (o : Offset) (rest : List Piece) → count (offset_then o rest) ≤ 2 + count rest
short_offset none rest = omega arith
short_offset (plus ds) rest = omega arith
short_offset (minus ds) rest = omega arith

short_cell : (c : Cell) (rest : List Piece) → count (cell_then c rest) ≤ 5 + count rest
short_cell c rest = omega (arith, short_offset c.offset (token (codes "]") ∷ rest))

short_numeral : (n : Numeral) (rest : List Piece) → count (numeral_then n rest) ≤ 2 + count rest
short_numeral (positive ds) rest = omega arith
short_numeral (negative ds) rest = omega arith

short_operand : (x : Operand) (rest : List Piece) → count (operand_then x rest) ≤ 5 + count rest
short_operand (cell c) rest = short_cell c rest
short_operand (numeral n) rest = omega (arith, short_numeral n rest)

short_source : (s : Source) (rest : List Piece) → count (source_then s rest) ≤ 11 + count rest
short_source (copy x) rest = omega (arith, short_operand x rest)
short_source (double c k) rest = omega (arith, short_cell c (offset_then k (token (codes "]") ∷ rest)), short_offset k (token (codes "]") ∷ rest))
short_source (sum c x) rest = omega (arith, short_cell c (space ∷ token (codes "+") ∷ space ∷ operand_then x rest), short_operand x rest)
short_source (product c x) rest = omega (arith, short_cell c (space ∷ token (codes "*") ∷ space ∷ operand_then x rest), short_operand x rest)

short_aim : (a : Aim) (rest : List Piece) → count (aim_then a rest) ≤ 6 + count rest
short_aim (by x) rest = omega (arith, short_operand x rest)
short_aim (label name) rest = omega arith

short_step : (step : Bool) → count (step_pieces step) ≤ 3
short_step true = omega arith
short_step false = omega arith

pub short_statement : (s : Statement) → length (tokens_of s) ≤ 20
short_statement (assert c s step) = omega (arith, short_cell c (space ∷ token (codes "=") ∷ space ∷ source_then s (step_pieces step)), short_source s (step_pieces step), short_step step)
short_statement (jump a step) = omega (arith, short_aim a (step_pieces step), short_step step)
short_statement (jump_abs x step) = omega (arith, short_operand x (step_pieces step), short_step step)
short_statement (jump_if a c step) =
    omega (arith, short_aim a (space ∷ token (codes "if") ∷ space ∷ cell_then c (space ∷ token (codes "!=") ∷ space ∷ token (codes "0") ∷ step_pieces step)), short_cell c (space ∷ token (codes "!=") ∷ space ∷ token (codes "0") ∷ step_pieces step), short_step step)
short_statement (call a) = omega (arith, short_aim a [])
short_statement (call_abs x) = omega (arith, short_operand x [])
short_statement ret = omega arith
short_statement (add_ap x) = omega (arith, short_operand x [])
short_statement (word n) = omega (arith, short_numeral n [])

-- ---- lines

short_line : (ts : List (List ℕ)) (line : Line) → Spells ts line → length ts ≤ 20
short_line ts empty_line h = omega (arith, ap length h)
short_line ts (label_line name) h = omega (arith, ap length h.0)
short_line ts (statement_line s) h = omega (arith, ap length h.0, short_statement s)

none_when_long : (ts : List (List ℕ)) (o : Option Line) → On (Spells ts) o → 20 < length ts → o ≡ None
none_when_long ts None h long = refl
none_when_long ts (Some line) h long = absurd (omega (arith, short_line ts line h))

-- the tokens after the twenty-first change nothing
pub cut_line : (ts : List (List ℕ)) → line_in (take 21 ts) ≡ line_in ts
cut_line ts =
    elim (cases_lt 21 (length ts)) [
      | inl long ↦
          none_when_long (take 21 ts) (line_in (take 21 ts)) (read_line (take 21 ts)) (omega (arith, length-take 21 ts))
          ∙ sym (none_when_long ts (line_in ts) (read_line ts) (omega arith))
      | inr short ↦ ap line_in (take_all 21 ts short)
    ]
