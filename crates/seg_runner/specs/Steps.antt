-- One step of the runner: first the rules put what is absent, in their order, and then the machine makes its transition
-- over the memory that they leave (docs/RUNNER.md).
use Rattle.std.specs.Prelude.{ℕ, ◌==◌, if◌then◌else◌, Bool, true, Option, Some, None, option_and_then, ℤ, Result, Ok, Err}
use Rattle.cairo_word.specs.Word.{Fields}
use Rattle.cairo_model.specs.Machine.Steps.{Registers, value_arithmetic, ◌>>=◌, required, moved, offset_number, register_in, spelled, result_of, next}
use Rattle.cairo_model.specs.Machine.Values.{Datum, number, place, same_datum}
use Rattle.cairo_model.specs.declared.fault.StepFault.{StepFault}
use Rattle.cairo_model.specs.declared.fault.StepFault.TheVariants.{Fetch, Word, Dst, Op0, Op1}
use Rattle.seg_runner.specs.Deductions.{by_hash, return_address, caller_frame, by_assertion}
use Rattle.seg_runner.specs.Memories.{GrowingMemory, put_where_absent}
use Rattle.seg_runner.specs.Refusals.{RunCause, unknown_cell, conflicting, faulty}

-- a memory and the registers of the machine
pub record Configuration : Type 0 where
  pub memory : GrowingMemory
  pub registers : Registers Datum

-- ---- addresses

-- a value that is a place
abbrev pub as_place : Datum → Option Datum
as_place (number a) = None
as_place (place segment offset) = Some (place segment offset)

-- the address of an operand, where it is defined and a place
abbrev pub operand_at : Datum → ℤ → Option Datum
operand_at from offset = option_and_then as_place (moved value_arithmetic from (offset_number offset))

-- what the address of op1 counts from: the value of op0, if that is there, or a register
abbrev pub op1_base : Fields → Registers Datum → Option Datum → Option Datum
op1_base f s op0 = if f.op1_src == 0 then op0 else Some (if f.op1_src == 1 then s.pc else (if f.op1_src == 2 then s.fp else s.ap))

-- ---- the parts of a step, in their order

-- the instruction at pc
abbrev pub fetched_fields : ℕ → Configuration → Result Fields RunCause
fetched_fields n now = do
  cell ← required (faulty n Fetch) (now.memory.cells now.registers.pc)
  required (faulty n Word) (spelled value_arithmetic cell)

-- what is put before op1 is looked for
unfoldable pub with_first_puts : ℕ → GrowingMemory → Fields → Registers Datum → Datum → Datum → Result GrowingMemory RunCause
with_first_puts n m f s dst op0 = do
  a ← put_where_absent n m dst (by_hash m dst)
  b ← put_where_absent n a op0 (by_hash a op0)
  c ← put_where_absent n b op0 (return_address f s)
  put_where_absent n c dst (caller_frame f s)

-- the address of op1
abbrev pub op1_at : ℕ → GrowingMemory → Fields → Registers Datum → Datum → Result Datum RunCause
op1_at n m f s op0 = do
  base ← required (unknown_cell n) (op1_base f s (m.cells op0))
  required (faulty n Op1) (operand_at base f.off_op1)

-- what is put after that
unfoldable pub with_last_puts : ℕ → GrowingMemory → Fields → Datum → Datum → Datum → Result GrowingMemory RunCause
with_last_puts n m f dst op0 op1 = do
  a ← put_where_absent n m op1 (by_hash m op1)
  by_assertion n a f dst op0 op1

-- ---- the end of a step

-- a result that is defined is dst
abbrev pub confirmed : ℕ → Datum → Option Datum → Result Bool RunCause
confirmed n dst None = Ok true
confirmed n dst (Some res) = if same_datum res dst then Ok true else Err (conflicting n dst res)

abbrev pub consistent : ℕ → Fields → Datum → Datum → Datum → Result Bool RunCause
consistent n f dst op0 op1 = if f.opcode == 4 then confirmed n dst (result_of value_arithmetic f op0 op1) else Ok true

-- a fault of this step is its refusal
abbrev pub refused_at : ℕ → Result (Registers Datum) StepFault → Result (Registers Datum) RunCause
refused_at n (Ok s) = Ok s
refused_at n (Err fault) = Err (faulty n fault)

-- the three cells stand, an assertion holds, and the machine makes its transition
unfoldable pub concluded : ℕ → GrowingMemory → Fields → Registers Datum → Datum → Datum → Datum → Result (Registers Datum) RunCause
concluded n m f s at_dst at_op0 at_op1 = do
  dst ← required (unknown_cell n) (m.cells at_dst)
  op0 ← required (unknown_cell n) (m.cells at_op0)
  op1 ← required (unknown_cell n) (m.cells at_op1)
  holds ← consistent n f dst op0 op1
  refused_at n (next value_arithmetic m.cells s)

-- the step of this number
unfoldable pub run_step : ℕ → Configuration → Result Configuration RunCause
run_step n now = do
  f ← fetched_fields n now
  dst ← required (faulty n Dst) (operand_at (register_in now.registers f.dst_reg) f.off_dst)
  op0 ← required (faulty n Op0) (operand_at (register_in now.registers f.op0_reg) f.off_op0)
  first ← with_first_puts n now.memory f now.registers dst op0
  op1 ← op1_at n first f now.registers op0
  last ← with_last_puts n first f dst op0 op1
  registers ← concluded n last f now.registers dst op0 op1
  Ok (record { memory = last; registers = registers })
