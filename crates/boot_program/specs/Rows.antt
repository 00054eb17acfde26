-- A program followed through so many instructions by computing: what a memory must hold for the machine to go through them, and
-- the states that it comes to. The program is given by the word that it has at each address. A row is one instruction at one
-- state; it is symbolic in ap, so that each address is a register plus a number.
use Rattle.std.specs.Prelude.{ℕ, zero, suc, ◌≡◌, ◌==◌, Bool, true, false, ◌&&◌, not, List, [], ◌∷◌, Option, Some, None, is_some, unwrap_or, option_and_then, if◌then◌else◌}
use Rattle.cairo_word.specs.Word.{Fields, fields_of, instruction_size}
use Rattle.cairo_word.specs.declared.word.Reg.{Reg}
use Rattle.cairo_word.specs.declared.word.Reg.TheVariants.{Ap, Fp}
use Rattle.goldi_field.specs.Numbers.{sum_of, product_of}
use Rattle.cairo_model.specs.Machine.Steps.{Registers, decoded, offset_number}

-- the value of a cell, 0 where there is none
abbrev pub cell_value : (ℕ → Option ℕ) → ℕ → ℕ
cell_value m x = unwrap_or (m x) 0

-- the instruction that a program has at an address
abbrev pub decoded_at : (ℕ → Option ℕ) → ℕ → Option Fields
decoded_at code pc = option_and_then decoded (code pc)

abbrev pub instruction_at : (ℕ → Option ℕ) → ℕ → Fields
instruction_at code pc = unwrap_or (decoded_at code pc) (fields_of 0)

-- a state whose ap is the base, or so much above it
pub record SymbolicState : Type 0 where
  pub pc : ℕ
  pub base : ℕ
  pub shift : Option ℕ
  pub fp : ℕ

-- a shift so much further up
abbrev pub shifted : Option ℕ → ℕ → Option ℕ
shifted None k = Some k
shifted (Some i) k = Some (sum_of i k)

abbrev pub above : ℕ → Option ℕ → ℕ
above base None = base
above base (Some k) = sum_of base k

-- the state itself
abbrev pub state_of : SymbolicState → Registers ℕ
state_of s = record { pc = s.pc; ap = above s.base s.shift; fp = s.fp }

-- the address so far from a register
abbrev pub register_address : SymbolicState → Reg → ℕ → ℕ
register_address s Ap k = above s.base (shifted s.shift k)
register_address s Fp k = sum_of s.fp k

abbrev pub dst_address : Fields → SymbolicState → ℕ
dst_address f s = register_address s f.dst_reg (offset_number f.off_dst)

abbrev pub op0_address : Fields → SymbolicState → ℕ
op0_address f s = register_address s f.op0_reg (offset_number f.off_op0)

-- a call writes the return address, else op0 is what stands there
abbrev pub op0_value : (ℕ → Option ℕ) → Fields → SymbolicState → ℕ
op0_value m f s = if f.opcode == 1 then sum_of s.pc (instruction_size f) else cell_value m (op0_address f s)

abbrev pub op1_address : (ℕ → Option ℕ) → Fields → SymbolicState → ℕ
op1_address m f s =
    if f.op1_src == 0 then sum_of (op0_value m f s) (offset_number f.off_op1)
    else (if f.op1_src == 2 then register_address s Fp (offset_number f.off_op1)
    else register_address s Ap (offset_number f.off_op1))

-- an operand in the program is the word there
abbrev pub code_operand : (ℕ → Option ℕ) → Fields → SymbolicState → Option ℕ
code_operand code f s = code (sum_of s.pc (offset_number f.off_op1))

abbrev pub op1_value : (ℕ → Option ℕ) → (ℕ → Option ℕ) → Fields → SymbolicState → ℕ
op1_value code m f s = if f.op1_src == 1 then unwrap_or (code_operand code f s) 0 else cell_value m (op1_address m f s)

abbrev pub res_value : (ℕ → Option ℕ) → (ℕ → Option ℕ) → Fields → SymbolicState → ℕ
res_value code m f s =
    if f.pc_update == 4 then op1_value code m f s
    else (if f.res_logic == 0 then op1_value code m f s
    else (if f.res_logic == 1 then sum_of (op0_value m f s) (op1_value code m f s)
    else product_of (op0_value m f s) (op1_value code m f s)))

-- an assert's dst is the result, a call's the frame pointer, and else what stands there
abbrev pub dst_value : (ℕ → Option ℕ) → (ℕ → Option ℕ) → Fields → SymbolicState → ℕ
dst_value code m f s = if f.opcode == 4 then res_value code m f s else (if f.opcode == 1 then s.fp else cell_value m (dst_address f s))

-- a demand that is made where a test holds
abbrev pub Where : Bool → Type 0 → Type 0
Where true A = A
Where false A = Unit {0}

-- what the memory must hold for the row
abbrev pub RowHolds : (ℕ → Option ℕ) → (ℕ → Option ℕ) → Fields → SymbolicState → Type 0
RowHolds code m f s =
    (m (op0_address f s) ≡ Some (op0_value m f s))
    × Where (not (f.op1_src == 1)) (m (op1_address m f s) ≡ Some (op1_value code m f s))
    × (m (dst_address f s) ≡ Some (dst_value code m f s))

-- the state after the row
abbrev pub next_symbolic : (ℕ → Option ℕ) → (ℕ → Option ℕ) → Fields → SymbolicState → SymbolicState
next_symbolic code m f s = record {
  pc =
      if f.pc_update == 0 then sum_of s.pc (instruction_size f)
      else (if f.pc_update == 1 then res_value code m f s
      else (if f.pc_update == 2 then sum_of s.pc (res_value code m f s)
      else (if dst_value code m f s == 0 then sum_of s.pc (instruction_size f) else sum_of s.pc (op1_value code m f s))));
  base =
      if f.opcode == 1 then register_address s Ap 2
      else (if f.ap_update == 1 && not (f.op1_src == 1) then register_address s Ap (res_value code m f s) else s.base);
  shift =
      if f.opcode == 1 then None
      else (if f.ap_update == 0 then s.shift
      else (if f.ap_update == 1 then (if f.op1_src == 1 then shifted s.shift (res_value code m f s) else None)
      else shifted s.shift 1));
  fp =
      if f.opcode == 1 then register_address s Ap 2
      else (if f.opcode == 2 then dst_value code m f s else s.fp);
}

-- the program has an instruction there, with its operand
abbrev pub is_row : (ℕ → Option ℕ) → SymbolicState → Bool
is_row code s = is_some (decoded_at code s.pc) && (if (instruction_at code s.pc).op1_src == 1 then is_some (code_operand code (instruction_at code s.pc) s) else true)

-- so many instructions, one after the other: the program has them, and the memory holds what they ask
unfoldable pub are_rows : (ℕ → Option ℕ) → ℕ → (ℕ → Option ℕ) → SymbolicState → Bool
are_rows code zero m s = true
are_rows code (suc n) m s = is_row code s && are_rows code n m (next_symbolic code m (instruction_at code s.pc) s)

unfoldable pub RowsHold : (ℕ → Option ℕ) → ℕ → (ℕ → Option ℕ) → SymbolicState → Type 0
RowsHold code zero m s = Unit {0}
RowsHold code (suc n) m s = RowHolds code m (instruction_at code s.pc) s × RowsHold code n m (next_symbolic code m (instruction_at code s.pc) s)

-- the states after the first
unfoldable pub rows_from : (ℕ → Option ℕ) → ℕ → (ℕ → Option ℕ) → SymbolicState → List (Registers ℕ)
rows_from code zero m s = []
rows_from code (suc n) m s = state_of (next_symbolic code m (instruction_at code s.pc) s) ∷ rows_from code n m (next_symbolic code m (instruction_at code s.pc) s)

-- the state after them
unfoldable pub symbolic_after : (ℕ → Option ℕ) → ℕ → (ℕ → Option ℕ) → SymbolicState → SymbolicState
symbolic_after code zero m s = s
symbolic_after code (suc n) m s = symbolic_after code n m (next_symbolic code m (instruction_at code s.pc) s)

-- a state from its registers
abbrev pub symbolic_state : ℕ → ℕ → ℕ → SymbolicState
symbolic_state pc ap fp = record { pc = pc; base = ap; shift = None; fp = fp }
