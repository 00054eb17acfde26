-- What the code's types say, as plain data.
use Rattle.std.specs.Prelude.{ℕ, List, map}
use denote.Ref.{Bor}
use Rattle.casm_text.specs.Statements.{Offset, none, plus, minus, Cell, Numeral, positive, negative, Operand, cell, numeral, Source, copy, double, sum, product, Aim, by, label, Statement, assert, jump, jump_abs, jump_if, call, call_abs, ret, add_ap, word}
use Rattle.casm_text.specs.Lines.{Line, empty_line, label_line, statement_line}
use Rattle.casm_text.specs.declared.syntax.Offset.{Offset as CodeOffset}
use Rattle.casm_text.specs.declared.syntax.Offset.TheVariants.{None, Plus, Minus}
use Rattle.casm_text.specs.declared.syntax.Cell.{Cell as CodeCell}
use Rattle.casm_text.specs.declared.syntax.Numeral.{Numeral as CodeNumeral}
use Rattle.casm_text.specs.declared.syntax.Numeral.TheVariants.{Positive, Negative}
use Rattle.casm_text.specs.declared.syntax.Operand.{Operand as CodeOperand}
use Rattle.casm_text.specs.declared.syntax.Operand.TheVariants as operand
use Rattle.casm_text.specs.declared.syntax.Source.{Source as CodeSource}
use Rattle.casm_text.specs.declared.syntax.Source.TheVariants.{Copy, Double, Sum, Product}
use Rattle.casm_text.specs.declared.syntax.Statement.{Statement as CodeStatement}
use Rattle.casm_text.specs.declared.syntax.Statement.TheVariants.{Assert, Jump, JumpAbs, JumpIf, Call, CallAbs, Ret, AddAp, Word}
use Rattle.casm_text.specs.declared.syntax.Aim.{Aim as CodeAim}
use Rattle.casm_text.specs.declared.syntax.Aim.TheVariants.{By}
use Rattle.casm_text.specs.declared.syntax.Aim.TheVariants as aims
use Rattle.casm_text.specs.declared.syntax.Line.{Line as CodeLine}
use Rattle.casm_text.specs.declared.syntax.Line.TheVariants.{Empty}
use Rattle.casm_text.specs.declared.syntax.Line.TheVariants as lines

-- the bytes of each token
abbrev pub slices : List (Bor (List ℕ)) → List (List ℕ)
slices ts = map (λ t. t.now) ts

-- an offset as it is spelled
abbrev pub offset_view : CodeOffset → Offset
offset_view None = none
offset_view (Plus ds) = plus ds.now
offset_view (Minus ds) = minus ds.now

-- a cell as it is spelled
abbrev pub cell_view : CodeCell → Cell
cell_view c = record { register = c.register; offset = offset_view c.offset }

-- a number as it is spelled
abbrev pub numeral_view : CodeNumeral → Numeral
numeral_view (Positive ds) = positive ds.now
numeral_view (Negative ds) = negative ds.now

-- an operand as it is spelled
abbrev pub operand_view : CodeOperand → Operand
operand_view (operand.Cell c) = cell (cell_view c)
operand_view (operand.Numeral n) = numeral (numeral_view n)

-- a right side as it is spelled
abbrev pub source_view : CodeSource → Source
source_view (Copy x) = copy (operand_view x)
source_view (Double c k) = double (cell_view c) (offset_view k)
source_view (Sum c x) = sum (cell_view c) (operand_view x)
source_view (Product c x) = product (cell_view c) (operand_view x)

-- an aim as it is spelled
abbrev pub aim_view : CodeAim → Aim
aim_view (By x) = by (operand_view x)
aim_view (aims.Label name) = label name.now

-- a statement as it is spelled
abbrev pub statement_view : CodeStatement → Statement
statement_view (Assert c s step) = assert (cell_view c) (source_view s) step
statement_view (Jump a step) = jump (aim_view a) step
statement_view (JumpAbs x step) = jump_abs (operand_view x) step
statement_view (JumpIf a c step) = jump_if (aim_view a) (cell_view c) step
statement_view (Call a) = call (aim_view a)
statement_view (CallAbs x) = call_abs (operand_view x)
statement_view Ret = ret
statement_view (AddAp x) = add_ap (operand_view x)
statement_view (Word n) = word (numeral_view n)

-- a line
abbrev pub line_view : CodeLine → Line
line_view Empty = empty_line
line_view (lines.Label name) = label_line name.now
line_view (lines.Statement s) = statement_line (statement_view s)
