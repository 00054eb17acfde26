-- The statement that a plain statement of the code is, spelled as in a listing.
use Rattle.std.specs.Prelude.{ℕ, List, [], ◌∷◌, Option, Some, None, decimal}
use Rattle.cairo_word.specs.Word.{Fields}
use Rattle.goldi_field.specs.declared.Felt.{Felt}
use Rattle.casm_text.specs.declared.op1.Op1.{Op1}
use Rattle.casm_text.specs.Statements.{Cell, Operand, cell, numeral, positive, Source, copy, double, sum, product, by, Statement, assert, jump, jump_abs, jump_if, call, call_abs, ret, add_ap, word}
use Rattle.casm_text.specs.Working.Rendering.{plain_offset, plain_cell}
use Rattle.casm_text.specs.declared.plain.PlainCell.{PlainCell}
use Rattle.casm_text.specs.declared.plain.PlainOperand.{PlainOperand}
use Rattle.casm_text.specs.declared.plain.PlainOperand.TheVariants as operand
use Rattle.casm_text.specs.declared.plain.PlainSource.{PlainSource}
use Rattle.casm_text.specs.declared.plain.PlainSource.TheVariants.{Copy, Double, Sum, Product}
use Rattle.casm_text.specs.declared.plain.PlainStatement.{PlainStatement}
use Rattle.casm_text.specs.declared.plain.PlainStatement.TheVariants.{Assert, Jump, JumpAbs, JumpIf, Call, CallAbs, Ret, AddAp, Word}

-- a cell, plainly spelled
abbrev pub listed_cell : PlainCell → Cell
listed_cell c = plain_cell c.register c.offset

-- an operand, plainly spelled
abbrev pub listed_operand : PlainOperand → Operand
listed_operand (operand.Cell c) = cell (listed_cell c)
listed_operand (operand.Number n) = numeral (positive (decimal n.number))

-- a right side, plainly spelled
abbrev pub listed_source : PlainSource → Source
listed_source (Copy x) = copy (listed_operand x)
listed_source (Double c k) = double (listed_cell c) (plain_offset k)
listed_source (Sum c x) = sum (listed_cell c) (listed_operand x)
listed_source (Product c x) = product (listed_cell c) (listed_operand x)

-- a statement, plainly spelled
abbrev pub listed_statement : PlainStatement → Statement
listed_statement (Assert c s step) = assert (listed_cell c) (listed_source s) step
listed_statement (Jump x step) = jump (by (listed_operand x)) step
listed_statement (JumpAbs x step) = jump_abs (listed_operand x) step
listed_statement (JumpIf x c step) = jump_if (by (listed_operand x)) (listed_cell c) step
listed_statement (Call x) = call (by (listed_operand x))
listed_statement (CallAbs x) = call_abs (listed_operand x)
listed_statement Ret = ret
listed_statement (AddAp x) = add_ap (listed_operand x)
listed_statement (Word n) = word (positive (decimal n.number))

-- the fields that these cells and groups of flags are
abbrev pub fields_from : PlainCell → PlainCell → Op1 → ℕ → ℕ → ℕ → ℕ → Fields
fields_from dst op0 op1 res_logic pc_update ap_update opcode = record {
  off_dst = dst.offset;
  off_op0 = op0.offset;
  off_op1 = op1.offset;
  dst_reg = dst.register;
  op0_reg = op0.register;
  op1_src = op1.source;
  res_logic = res_logic;
  pc_update = pc_update;
  ap_update = ap_update;
  opcode = opcode;
}

-- a number, if there is one, as a list
abbrev pub one_number : Option Felt → List ℕ
one_number None = []
one_number (Some n) = n.number ∷ []
