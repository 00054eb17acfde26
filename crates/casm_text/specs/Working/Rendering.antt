-- The one plain statement that may give an instruction's word and the numbers after it.
use Rattle.std.specs.Prelude.{ℕ, zero, suc, ◌-◌, ℤ, pos, negsuc, Bool, false, not, ◌==◌, ◌&&◌, List, [], ◌∷◌, length, take, Option, Some, None, is_some, bytes_eq, decimal, get_or, if◌then◌else◌}
use Rattle.std.specs.Ordering.{int_eq}
use Rattle.casm_text.specs.Words.{register_source, statement_fields, statement_numbers, numbers_at}
use Rattle.casm_text.specs.Lines.{statement_size}
use Rattle.casm_text.specs.Listings.{nowhere}
use Rattle.cairo_word.specs.Word.{Fields, fields_of, word_fault_of}
use Rattle.cairo_word.specs.declared.word.Reg.{Reg}
use Rattle.cairo_word.specs.declared.word.Reg.TheVariants.{Ap, Fp}
use Rattle.casm_text.specs.Statements.{Offset, none, plus, minus, positive, Cell, Operand, cell, numeral, Source, copy, double, sum, product, by, Statement, assert, jump, jump_abs, jump_if, call, call_abs, ret, add_ap, word}

-- an offset, plainly spelled
abbrev pub plain_offset : ℤ → Offset
plain_offset (pos zero) = none
plain_offset (pos (suc k)) = plus (decimal (suc k))
plain_offset (negsuc k) = minus (decimal (suc k))

-- a cell, plainly spelled
abbrev pub plain_cell : Reg → ℤ → Cell
plain_cell r k = record { register = r; offset = plain_offset k }

-- the destination of an instruction
abbrev pub dst_cell : Fields → Cell
dst_cell f = plain_cell f.dst_reg f.off_dst

-- its first operand
abbrev pub op0_cell : Fields → Cell
op0_cell f = plain_cell f.op0_reg f.off_op0

-- its second operand, which may be the number after it
abbrev pub op1_operand : Fields → List ℕ → Operand
op1_operand f numbers =
    if f.op1_src == 2 then cell (plain_cell Fp f.off_op1)
    else (if f.op1_src == 4 then cell (plain_cell Ap f.off_op1)
    else numeral (positive (decimal (get_or numbers 0 0))))

-- the right side of its assertion
abbrev pub right_side : Fields → List ℕ → Source
right_side f numbers =
    if f.op1_src == 0 then double (op0_cell f) (plain_offset f.off_op1)
    else (if f.res_logic == 1 then sum (op0_cell f) (op1_operand f numbers)
    else (if f.res_logic == 2 then product (op0_cell f) (op1_operand f numbers)
    else copy (op1_operand f numbers)))

-- of the statements other than `word`, no other can give a word with these fields and then these numbers
abbrev pub statement_for : Fields → List ℕ → Statement
statement_for f numbers =
    if f.opcode == 4 then assert (dst_cell f) (right_side f numbers) (f.ap_update == 2)
    else (if f.opcode == 2 then ret
    else (if f.opcode == 1 then (if f.pc_update == 1 then call_abs (op1_operand f numbers) else call (by (op1_operand f numbers)))
    else (if f.pc_update == 4 then jump_if (by (op1_operand f numbers)) (dst_cell f) (f.ap_update == 2)
    else (if f.pc_update == 1 then jump_abs (op1_operand f numbers) (f.ap_update == 2)
    else (if f.pc_update == 2 then jump (by (op1_operand f numbers)) (f.ap_update == 2)
    else add_ap (op1_operand f numbers))))))

-- ---- whether it gives the words, and the listing as a function

-- whether two registers are one
abbrev pub reg_eq : Reg → Reg → Bool
reg_eq a b = register_source a == register_source b

-- whether two lists of fields are one
abbrev pub fields_eq : Fields → Fields → Bool
fields_eq f g =
    int_eq f.off_dst g.off_dst && (int_eq f.off_op0 g.off_op0 && (int_eq f.off_op1 g.off_op1 && (reg_eq f.dst_reg g.dst_reg && (reg_eq f.op0_reg g.op0_reg
    && (f.op1_src == g.op1_src && (f.res_logic == g.res_logic && (f.pc_update == g.pc_update && (f.ap_update == g.ap_update && f.opcode == g.opcode))))))))

-- whether the word is that of these fields
abbrev pub is_word_of : Option Fields → ℕ → Bool
is_word_of None w = false
is_word_of (Some f) w = not (is_some (word_fault_of w)) && fields_eq (fields_of w) f

-- the word w and these numbers begin with what the statement gives
abbrev pub is_given : Statement → ℕ → List ℕ → Bool
is_given s w numbers =
    is_word_of (statement_fields s) w && bytes_eq (take (length (statement_numbers s)) numbers) (numbers_at nowhere 0 (statement_numbers s))

-- the statement that a listing has for the word w and the words after it
abbrev pub listed_at : ℕ → List ℕ → Statement
listed_at w numbers = if is_given (statement_for (fields_of w) numbers) w numbers then statement_for (fields_of w) numbers else word (positive (decimal w))

-- the statements from here on, once so many words are passed over
abbrev pub walk : ℕ → List ℕ → List Statement
walk skip [] = []
walk (suc skip) (w ∷ words) = walk skip words
walk zero (w ∷ words) = listed_at w words ∷ walk (statement_size (listed_at w words) - 1) words

-- the statements of the listing of these words
abbrev pub statements_of : List ℕ → List Statement
statements_of words = walk 0 words
