-- A run as the code makes it, and what its memory keeps.
use Rattle.std.specs.Prelude.{ℕ, zero, suc, ◌≡◌, ◌+◌, ◌≤◌, ◌==◌, List, length, sum, slice_get, map, Option, Some, if◌then◌else◌, Result, Ok, Err}
use Rattle.cairo_word.specs.Word.{Fields}
use Rattle.cairo_model.specs.Limits.{least_segments, most_cells}
use Rattle.cairo_model.specs.Machine.Steps.{Registers, ◌>>=◌, value_arithmetic, spelled, register_in, op1_from}
use Rattle.cairo_model.specs.Machine.Values.{Datum, number, place}
use Rattle.cairo_model.specs.Segments.{builtin_mask, frame_segments}
use Rattle.seg_memory.specs.Memory.{MemoryRecord}
use Rattle.seg_runner.specs.Endings.{is_returned, completed}
use Rattle.seg_runner.specs.Memories.{GrowingMemory}
use Rattle.seg_runner.specs.Refusals.{RunCause, over_limit}
use Rattle.seg_runner.specs.Starts.{started}
use Rattle.seg_runner.specs.Steps.{Configuration, operand_at, run_step}

-- the segments that every PIE has, and not too many cells
pub record HasSevenSizes (m : MemoryRecord) : Type 0 where
  pub seven : length m.sizes ≡ least_segments
  pub in_all : sum m.sizes ≤ most_cells

-- the cells with these values in a segment, from its first cell on
abbrev pub with_row : (Datum → Option Datum) → ℕ → List Datum → Datum → Option Datum
with_row cells segment values (number a) = cells (number a)
with_row cells segment values (place s o) = if s == segment then slice_get values o else cells (place s o)

-- the values of the frame
abbrev pub frame_values : List Datum
frame_values = map (λ start. place start 0) (frame_segments builtin_mask)

-- these fields stand at pc, and these are the addresses of their operands, op1 counted from the value of op0 if it does
pub record IsInstruction (m : Datum → Option Datum) (f : Fields) (s : Registers Datum) (dst op0 op1 : Datum) : Type 0 where
  pub cell : Datum
  pub is_fetched : m s.pc ≡ Some cell
  pub is_decoded : spelled value_arithmetic cell ≡ Some f
  pub dst_at : operand_at (register_in s f.dst_reg) f.off_dst ≡ Some dst
  pub op0_at : operand_at (register_in s f.op0_reg) f.off_op0 ≡ Some op0
  pub op1_at : (v : Datum) → m op0 ≡ Some v → operand_at (op1_from f s v) f.off_op1 ≡ Some op1

-- how many steps led home, and the memory there
pub record RunEnd : Type 0 where
  pub steps : ℕ
  pub memory : GrowingMemory

abbrev pub ended : ℕ → GrowingMemory → RunEnd
ended steps memory = record { steps = steps; memory = memory }

-- the run from the n-th step on, with so many steps left
unfoldable pub runs_on : ℕ → ℕ → Configuration → Result RunEnd RunCause
runs_on zero n now = if is_returned now.registers then Ok (ended n now.memory) else Err (over_limit n)
runs_on (suc left) n now = if is_returned now.registers then Ok (ended n now.memory) else (run_step n now >>= runs_on left (n + 1))

-- the run of a program, and the memory that it leaves
unfoldable pub run_of : List ℕ → ℕ → ℕ → Result RunEnd RunCause
run_of words main limit = do
  start ← started words main
  end ← runs_on limit 0 start
  complete ← completed end.steps end.memory
  Ok (ended end.steps complete)
