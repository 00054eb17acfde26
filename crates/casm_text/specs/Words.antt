-- The words that a statement gives (docs/ASSEMBLY.md).
use Rattle.std.specs.Prelude.{ℕ, ◌-◌, ℤ, pos, neg_ℤ, Bool, true, false, ◌&&◌, nat_lt, nat_le, List, [], ◌∷◌, ◌≡◌, Option, Some, None}
use Rattle.std.specs.Str.Parse.{digits_value}
use Rattle.goldi_field.specs.Numbers.{prime, difference_of}
use Rattle.cairo_word.specs.Word.{Fields, fields_of, word_fault_of}
use Rattle.cairo_word.specs.declared.word.Reg.{Reg}
use Rattle.cairo_word.specs.declared.word.Reg.TheVariants.{Ap, Fp}
use Rattle.casm_text.specs.Statements.{Offset, none, plus, minus, Numeral, positive, negative, Cell, Operand, cell, numeral, Source, copy, double, sum, product, Aim, by, label, Statement, assert, jump, jump_abs, jump_if, call, call_abs, ret, add_ap, word}

-- the number that decimal digits spell
abbrev pub value_of : List ℕ → ℕ
value_of digits = digits_value 10 digits

-- the offset as a number of cells
abbrev pub offset_value : Offset → ℤ
offset_value none = pos 0
offset_value (plus ds) = pos (value_of ds)
offset_value (minus ds) = neg_ℤ (pos (value_of ds))

-- from -32768 to 32767
abbrev pub offset_fits : Offset → Bool
offset_fits none = true
offset_fits (plus ds) = nat_le (value_of ds) 32767
offset_fits (minus ds) = nat_le (value_of ds) 32768

-- `-` and a number stand for the prime less it
abbrev pub numeral_value : Numeral → ℕ
numeral_value (positive ds) = value_of ds
numeral_value (negative ds) = prime - value_of ds

-- below the prime, and with `-` not 0
abbrev pub numeral_fits : Numeral → Bool
numeral_fits (positive ds) = nat_lt (value_of ds) prime
numeral_fits (negative ds) = nat_lt 0 (value_of ds) && nat_lt (value_of ds) prime

-- an operand's offset or number is in its range
abbrev pub operand_fits : Operand → Bool
operand_fits (cell c) = offset_fits c.offset
operand_fits (numeral n) = numeral_fits n

-- the offsets and the number of a right side are in their ranges
abbrev pub source_fits : Source → Bool
source_fits (copy x) = operand_fits x
source_fits (double c k) = offset_fits c.offset && offset_fits k
source_fits (sum c x) = offset_fits c.offset && operand_fits x
source_fits (product c x) = offset_fits c.offset && operand_fits x

-- so is what an aim has; a label has no range
abbrev pub aim_fits : Aim → Bool
aim_fits (by x) = operand_fits x
aim_fits (label name) = true

-- each number and offset is in its range
abbrev pub statement_fits : Statement → Bool
statement_fits (assert c s step) = offset_fits c.offset && source_fits s
statement_fits (jump a step) = aim_fits a
statement_fits (jump_abs x step) = operand_fits x
statement_fits (jump_if a c step) = aim_fits a && offset_fits c.offset
statement_fits (call a) = aim_fits a
statement_fits (call_abs x) = operand_fits x
statement_fits ret = true
statement_fits (add_ap x) = operand_fits x
statement_fits (word n) = numeral_fits n

-- ---- the fields of its instruction

-- what a statement doesn't name: dst and op0 at fp - 1, all else 0
abbrev pub unnamed : Fields
unnamed = record {
  off_dst = neg_ℤ (pos 1);
  off_op0 = neg_ℤ (pos 1);
  off_op1 = pos 0;
  dst_reg = Fp;
  op0_reg = Fp;
  op1_src = 0;
  res_logic = 0;
  pc_update = 0;
  ap_update = 0;
  opcode = 0;
}

-- with this cell as the destination
abbrev pub with_dst : Cell → Fields → Fields
with_dst c f = record f { dst_reg = c.register; off_dst = offset_value c.offset }

-- with this cell as the first operand
abbrev pub with_op0 : Cell → Fields → Fields
with_op0 c f = record f { op0_reg = c.register; off_op0 = offset_value c.offset }

-- the source of op1 that counts from this register
abbrev pub register_source : Reg → ℕ
register_source Ap = 4
register_source Fp = 2

-- the source of op1 for this operand
abbrev pub operand_source : Operand → ℕ
operand_source (cell c) = register_source c.register
operand_source (numeral n) = 1

-- where op1_src is 1, op1 is the cell after the instruction
abbrev pub operand_offset : Operand → ℤ
operand_offset (cell c) = offset_value c.offset
operand_offset (numeral n) = pos 1

-- with this as the second operand
abbrev pub with_op1 : Operand → Fields → Fields
with_op1 x f = record f { op1_src = operand_source x; off_op1 = operand_offset x }

-- a label is given by a number as well
abbrev pub aim_source : Aim → ℕ
aim_source (by x) = operand_source x
aim_source (label name) = 1

-- the offset of op1 for this aim
abbrev pub aim_offset : Aim → ℤ
aim_offset (by x) = operand_offset x
aim_offset (label name) = pos 1

-- with this aim as the second operand
abbrev pub with_aim : Aim → Fields → Fields
with_aim a f = record f { op1_src = aim_source a; off_op1 = aim_offset a }

-- the update of ap: 2 adds one to it
abbrev pub step_update : Bool → ℕ
step_update true = 2
step_update false = 0

-- with `, ap++` or without
abbrev pub with_step : Bool → Fields → Fields
with_step step f = record f { ap_update = step_update step }

-- with this right side
abbrev pub with_source : Source → Fields → Fields
with_source (copy x) f = with_op1 x f
with_source (double c k) f = record (with_op0 c f) { off_op1 = offset_value k }
with_source (sum c x) f = with_op1 x (record (with_op0 c f) { res_logic = 1 })
with_source (product c x) f = with_op1 x (record (with_op0 c f) { res_logic = 2 })

-- a call keeps fp and the return address in the two cells from ap on
abbrev pub calling : Fields
calling = record unnamed { opcode = 1; dst_reg = Ap; off_dst = pos 0; op0_reg = Ap; off_op0 = pos 1 }

-- none for `word N`
abbrev pub statement_fields : Statement → Option Fields
statement_fields (assert c s step) = Some (with_step step (with_source s (with_dst c (record unnamed { opcode = 4 }))))
statement_fields (jump a step) = Some (with_step step (with_aim a (record unnamed { pc_update = 2 })))
statement_fields (jump_abs x step) = Some (with_step step (with_op1 x (record unnamed { pc_update = 1 })))
statement_fields (jump_if a c step) = Some (with_step step (with_aim a (with_dst c (record unnamed { pc_update = 4 }))))
statement_fields (call a) = Some (with_aim a (record calling { pc_update = 2 }))
statement_fields (call_abs x) = Some (with_op1 x (record calling { pc_update = 1 }))
statement_fields ret = Some (record unnamed { opcode = 2; pc_update = 1; off_dst = neg_ℤ (pos 2); op1_src = 2; off_op1 = neg_ℤ (pos 1) })
statement_fields (add_ap x) = Some (with_op1 x (record unnamed { ap_update = 1 }))
statement_fields (word n) = None

-- ---- its numbers

-- a second word, a number or a label
pub data Second : Type 0 where
  number : ℕ → Second
  distance : List ℕ → Second

-- the word after the instruction that an operand asks for, if any
abbrev pub operand_second : Operand → List Second
operand_second (cell c) = []
operand_second (numeral n) = number (numeral_value n) ∷ []

-- the same of an aim, whose label asks for its distance
abbrev pub aim_second : Aim → List Second
aim_second (by x) = operand_second x
aim_second (label name) = distance name ∷ []

-- the same of a right side
abbrev pub source_second : Source → List Second
source_second (copy x) = operand_second x
source_second (double c k) = []
source_second (sum c x) = operand_second x
source_second (product c x) = operand_second x

-- the numbers that it gives: after the instruction, or for `word N` alone
abbrev pub statement_numbers : Statement → List Second
statement_numbers (assert c s step) = source_second s
statement_numbers (jump a step) = aim_second a
statement_numbers (jump_abs x step) = operand_second x
statement_numbers (jump_if a c step) = aim_second a
statement_numbers (call a) = aim_second a
statement_numbers (call_abs x) = operand_second x
statement_numbers ret = []
statement_numbers (add_ap x) = operand_second x
statement_numbers (word n) = number (numeral_value n) ∷ []

-- ---- its words

-- the labels' offsets are known, and so is the statement's
abbrev pub second_value : (List ℕ → ℕ) → ℕ → Second → ℕ
second_value offset_of at (number n) = n
second_value offset_of at (distance name) = difference_of (offset_of name) at

-- each of these numbers, for a statement at this offset
abbrev pub numbers_at : (List ℕ → ℕ) → ℕ → List Second → List ℕ
numbers_at offset_of at [] = []
numbers_at offset_of at (n ∷ ns) = second_value offset_of at n ∷ numbers_at offset_of at ns

-- w is the word with these fields, and there is one alone (cairo_word's law)
pub record IsWordOf (f : Fields) (w : ℕ) : Type 0 where
  pub sound : word_fault_of w ≡ None
  pub fields : fields_of w ≡ f

-- the first word, if there is an instruction, before the numbers
abbrev pub IsInstructed : Option Fields → List ℕ → List ℕ → Type 0
IsInstructed None numbers words = words ≡ numbers
IsInstructed (Some f) numbers words = (w : ℕ) × IsWordOf f w × (words ≡ w ∷ numbers)

-- the statement at this offset gives these words
abbrev pub GivesWords : (List ℕ → ℕ) → ℕ → Statement → List ℕ → Type 0
GivesWords offset_of at s words = IsInstructed (statement_fields s) (numbers_at offset_of at (statement_numbers s)) words
