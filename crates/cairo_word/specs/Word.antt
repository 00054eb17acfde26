-- Words of the Cairo machine: the ten fields of a number, and what is wrong with it (Cairo whitepaper, section 4.5).
use Rattle.cairo_word.specs.declared.word.Reg.{Reg}
use Rattle.cairo_word.specs.declared.word.Reg.TheVariants.{Ap, Fp}
use Rattle.cairo_word.specs.declared.word.WordFault.{WordFault}
use Rattle.cairo_word.specs.declared.word.WordFault.TheVariants.{HighBit, Op1Source, ResLogic, PcUpdate, ApUpdate, Opcode, JumpMix, CallMix}
use Rattle.std.specs.Prelude.{ℕ, ◌/◌, ◌%◌, ◌^◌, ℤ, pos, ◌-ℤ◌, Bool, ◌||◌, ◌&&◌, not, ◌==◌, nat_le, if◌then◌else◌, Option, Some, None}

-- the ten fields of a word
pub record Fields : Type 0 where
  pub off_dst : ℤ
  pub off_op0 : ℤ
  pub off_op1 : ℤ
  pub dst_reg : Reg
  pub op0_reg : Reg
  pub op1_src : ℕ
  pub res_logic : ℕ
  pub pc_update : ℕ
  pub ap_update : ℕ
  pub opcode : ℕ

-- the number that the bits of w from the one at place on spell, as many as width
abbrev pub bits_of : ℕ → ℕ → ℕ → ℕ
bits_of w place width = w / 2 ^ place % 2 ^ width

-- the bits of a word that keep an offset
abbrev pub offset_bits : ℕ
offset_bits = 16

-- what is added to an offset to keep it: half of what its bits can hold
abbrev pub offset_bias : ℕ
offset_bias = 32768

-- the offset kept in the bits from place on
abbrev pub offset_of : ℕ → ℕ → ℤ
offset_of w place = pos (bits_of w place offset_bits) -ℤ pos offset_bias

-- the register that a bit names: the allocation pointer at 0, the frame pointer at 1
abbrev pub register_of : ℕ → Reg
register_of bit = if bit == 0 then Ap else Fp

abbrev pub fields_of : ℕ → Fields
fields_of w = record {
  off_dst = offset_of w 0;
  off_op0 = offset_of w 16;
  off_op1 = offset_of w 32;
  dst_reg = register_of (bits_of w 48 1);
  op0_reg = register_of (bits_of w 49 1);
  op1_src = bits_of w 50 3;
  res_logic = bits_of w 53 2;
  pc_update = bits_of w 55 3;
  ap_update = bits_of w 58 2;
  opcode = bits_of w 60 3;
}

-- a group of three flags with at most one of them set
abbrev pub is_choice : ℕ → Bool
is_choice n = n == 0 || n == 1 || n == 2 || n == 4

-- a conditional jump that computes a result, has an opcode, or moves ap by its result
abbrev pub is_jump_mix : ℕ → ℕ → ℕ → ℕ → Bool
is_jump_mix res_logic pc_update ap_update opcode =
    pc_update == 4 && (not (res_logic == 0) || not (opcode == 0) || ap_update == 1)

-- a call that moves ap in another way than a call does
abbrev pub is_call_mix : ℕ → ℕ → Bool
is_call_mix ap_update opcode = opcode == 1 && not (ap_update == 0)

-- the first fault of a mixture of op1_src, res_logic, pc_update, ap_update and opcode
abbrev pub mixture_fault_of : ℕ → ℕ → ℕ → ℕ → ℕ → Option WordFault
mixture_fault_of op1_src res_logic pc_update ap_update opcode =
    if not (is_choice op1_src) then Some Op1Source
    else (if res_logic == 3 then Some ResLogic
    else (if not (is_choice pc_update) then Some PcUpdate
    else (if ap_update == 3 then Some ApUpdate
    else (if not (is_choice opcode) then Some Opcode
    else (if is_jump_mix res_logic pc_update ap_update opcode then Some JumpMix
    else (if is_call_mix ap_update opcode then Some CallMix
    else None))))))

abbrev pub fields_fault_of : Fields → Option WordFault
fields_fault_of f = mixture_fault_of f.op1_src f.res_logic f.pc_update f.ap_update f.opcode

-- the first fault of a word: its highest bit is set, or that of its fields
abbrev pub word_fault_of : ℕ → Option WordFault
word_fault_of w = if nat_le (2 ^ 63) w then Some HighBit else fields_fault_of (fields_of w)

-- the cells that an instruction takes, itself and where op1 comes after it that one
abbrev pub instruction_size : Fields → ℕ
instruction_size f = if f.op1_src == 1 then 2 else 1
