-- Why a PIE isn't accepted alone: the causes by their numbers, and the first that applies (docs/PIE.md).
use Rattle.std.specs.Prelude.{ℕ, ◌≡◌, ◌≢◌, ◌+◌, ◌*◌, ◌<◌, ◌≤◌, List, length, slice_index, Option, Some}
use Rattle.builtin_hash.specs.Instances.{IsInstance, cells_per_instance}
use Rattle.builtin_range.specs.Ranges.{IsRangeCell}
use Rattle.cairo_model.specs.Pie.Acceptance.{HasFrameCell, HasStopPointer, start_of}
use Rattle.cairo_model.specs.Segments.{program_segment, output_segment, range_segment, hash_segment, return_fp_segment, return_pc_segment, builtin_mask, builtin_segments, frame_segments}
use Rattle.cairo_model.specs.Refusals.FirstFailing.{IsFirstCause, IsFirstFailing}
use Rattle.cairo_model.specs.Machine.Steps.{Arithmetic, Registers, StepFaultOf, RunsTo, value_arithmetic}
use Rattle.cairo_model.specs.Pie.Records.{MemoryCell, PieRecord, memory_of, segment_size, value_at}
use Rattle.cairo_model.specs.Machine.Values.{Datum, number, place}
use Rattle.cairo_model.specs.declared.fault.StepFault.{StepFault}

-- a cause, with its fields as plain data
pub data ReplayCause : Type 0 where
  program_cell : ℕ → ReplayCause
  bad_main : ℕ → ReplayCause
  bad_frame : ℕ → ReplayCause
  output_cell : ℕ → ReplayCause
  range_cell : ℕ → ReplayCause
  hash_instance : ℕ → ReplayCause
  step : ℕ → StepFault → ReplayCause
  not_home : Datum → ReplayCause
  wrong_frame : Datum → ReplayCause
  stop_pointer : ℕ → ReplayCause

abbrev pub replay_number : ReplayCause → ℕ
replay_number (program_cell i) = 20
replay_number (bad_main main) = 21
replay_number (bad_frame i) = 22
replay_number (output_cell i) = 23
replay_number (range_cell i) = 24
replay_number (hash_instance i) = 25
replay_number (step n fault) = 26
replay_number (not_home pc) = 27
replay_number (wrong_frame fp) = 28
replay_number (stop_pointer i) = 29

-- ---- cells

-- a number stands there
abbrev pub HasNumber : List MemoryCell → ℕ → ℕ → Type 0
HasNumber cells segment offset = (n : ℕ) × (value_at cells segment offset ≡ Some (number n))

abbrev pub HasRangeCell : List MemoryCell → ℕ → Type 0
HasRangeCell cells offset = (n : ℕ) × ((value_at cells range_segment offset ≡ Some (number n)) × IsRangeCell n)

-- the twenty cells of this index in the hash segment are an instance, and lie below the segment's size
pub record HasInstance (pie : PieRecord) (i : ℕ) : Type 0 where
  pub numbers : List ℕ
  pub below : cells_per_instance * i + cells_per_instance ≤ segment_size pie hash_segment
  pub holds : (k : ℕ) → k < cells_per_instance → value_at pie.cells hash_segment (cells_per_instance * i + k) ≡ Some (number (slice_index numbers k))
  pub is_instance : IsInstance numbers

-- the least offset of a segment, below its size, at which no number stands
abbrev pub IsFirstGap : PieRecord → ℕ → ℕ → Type 0
IsFirstGap pie segment = IsFirstFailing (λ i. i < segment_size pie segment) (HasNumber pie.cells segment)

-- ---- runs

-- a run of so many steps begins in s, and at its last state a step has this fault
pub record FailsAfter {V : Type 0} (A : Arithmetic V) (m : V → Option V) (s : Registers V) (steps : ℕ) (fault : StepFault) : Type 0 where
  pub states : List (Registers V)
  pub last : Registers V
  pub runs : RunsTo A m s states last
  pub counts : length states ≡ steps + 1
  pub fails : StepFaultOf A m last fault

-- the run of the PIE's steps over its own cells ends in this state
pub record EndsIn (pie : PieRecord) (last : Registers Datum) : Type 0 where
  pub states : List (Registers Datum)
  pub runs : RunsTo value_arithmetic (memory_of pie.cells) (start_of pie) states last
  pub count : length states ≡ pie.steps + 1

-- ---- the causes

abbrev pub IsReplayCause : PieRecord → ReplayCause → Type 0
IsReplayCause pie (program_cell i) = IsFirstGap pie program_segment i
IsReplayCause pie (bad_main main) = (main ≡ pie.main) × (segment_size pie program_segment ≤ pie.main)
IsReplayCause pie (bad_frame i) = IsFirstFailing (λ k. k < length (frame_segments builtin_mask)) (HasFrameCell builtin_mask pie.cells) i
IsReplayCause pie (output_cell i) = IsFirstGap pie output_segment i
IsReplayCause pie (range_cell i) = IsFirstFailing (λ k. k < segment_size pie range_segment) (HasRangeCell pie.cells) i
IsReplayCause pie (hash_instance i) = IsFirstFailing (λ k. cells_per_instance * k < segment_size pie hash_segment) (HasInstance pie) i
IsReplayCause pie (step n fault) = (n < pie.steps) × FailsAfter value_arithmetic (memory_of pie.cells) (start_of pie) n fault
IsReplayCause pie (not_home pc) = (last : Registers Datum) × (EndsIn pie last × ((pc ≡ last.pc) × (pc ≢ place return_pc_segment 0)))
IsReplayCause pie (wrong_frame fp) = (last : Registers Datum) × (EndsIn pie last × ((fp ≡ last.fp) × (fp ≢ place return_fp_segment 0)))
IsReplayCause pie (stop_pointer i) = (last : Registers Datum) × (EndsIn pie last × IsFirstFailing (λ k. k < length (builtin_segments builtin_mask)) (HasStopPointer builtin_mask pie last.ap) i)

-- the cause applies, and none of a lower number does
abbrev pub IsFirstReplayCause : PieRecord → ReplayCause → Type 0
IsFirstReplayCause pie cause = IsFirstCause replay_number (IsReplayCause pie) cause
