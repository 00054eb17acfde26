-- The plain statement that a statement is, once its labels' offsets and its own are known.
use Rattle.std.specs.Prelude.{ℕ, ℤ, Bool, List, Option, Some, None, decimal, if◌then◌else◌}
use Rattle.goldi_field.specs.Numbers.{difference_of}
use Rattle.casm_text.specs.Statements.{Offset, Numeral, positive, Cell, Operand, cell, numeral, Source, copy, double, sum, product, Aim, by, label, Statement, assert, jump, jump_abs, jump_if, call, call_abs, ret, add_ap, word}
use Rattle.casm_text.specs.Words.{offset_value, offset_fits, numeral_value, numeral_fits}
use Rattle.casm_text.specs.Working.Rendering.{plain_offset, plain_cell}

-- this, where it fits
abbrev pub where_fits : {A : Type 0} → Bool → A → Option A
where_fits fits x = if fits then Some x else None

-- the number of an offset that fits
abbrev pub fitting_offset : Offset → Option ℤ
fitting_offset o = where_fits (offset_fits o) (offset_value o)

-- the number that a numeral stands for, where it fits
abbrev pub fitting_numeral : Numeral → Option ℕ
fitting_numeral n = where_fits (numeral_fits n) (numeral_value n)

-- a cell, plainly spelled
abbrev pub resolved_cell : Cell → Cell
resolved_cell c = plain_cell c.register (offset_value c.offset)

-- a number, plainly spelled
abbrev pub plain_number : ℕ → Operand
plain_number n = numeral (positive (decimal n))

-- an operand, plainly spelled
abbrev pub resolved_operand : Operand → Operand
resolved_operand (cell c) = cell (resolved_cell c)
resolved_operand (numeral n) = plain_number (numeral_value n)

-- a right side, plainly spelled
abbrev pub resolved_source : Source → Source
resolved_source (copy x) = copy (resolved_operand x)
resolved_source (double c k) = double (resolved_cell c) (plain_offset (offset_value k))
resolved_source (sum c x) = sum (resolved_cell c) (resolved_operand x)
resolved_source (product c x) = product (resolved_cell c) (resolved_operand x)

-- an aim by its number, where it is a label
abbrev pub resolved_aim : (List ℕ → ℕ) → ℕ → Aim → Operand
resolved_aim offset_of at (by x) = resolved_operand x
resolved_aim offset_of at (label name) = plain_number (difference_of (offset_of name) at)

-- the statement without its label, plainly spelled
abbrev pub resolved_statement : (List ℕ → ℕ) → ℕ → Statement → Statement
resolved_statement offset_of at (assert c s step) = assert (resolved_cell c) (resolved_source s) step
resolved_statement offset_of at (jump a step) = jump (by (resolved_aim offset_of at a)) step
resolved_statement offset_of at (jump_abs x step) = jump_abs (resolved_operand x) step
resolved_statement offset_of at (jump_if a c step) = jump_if (by (resolved_aim offset_of at a)) (resolved_cell c) step
resolved_statement offset_of at (call a) = call (by (resolved_aim offset_of at a))
resolved_statement offset_of at (call_abs x) = call_abs (resolved_operand x)
resolved_statement offset_of at ret = ret
resolved_statement offset_of at (add_ap x) = add_ap (resolved_operand x)
resolved_statement offset_of at (word n) = word (positive (decimal (numeral_value n)))
