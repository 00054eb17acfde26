-- When a PIE is accepted alone, by its isolated run (docs/PIE.md).
use Rattle.std.specs.Prelude.{ℕ, ◌≡◌, ◌+◌, ◌-◌, ◌<◌, List, length, slice_index, All, Option, Some, option_and_then}
use Rattle.builtin_hash.specs.Programs.{program_hash_of}
use Rattle.builtin_range.specs.Ranges.{IsRangeCell}
use Rattle.cairo_model.specs.Pie.BuiltinCells.{AreInstances}
use Rattle.cairo_model.specs.Segments.{program_segment, execution_segment, output_segment, range_segment, hash_segment, return_fp_segment, return_pc_segment, builtin_mask, builtin_segments, frame_segments}
use Rattle.cairo_model.specs.Machine.Values.{Datum, number, place, Difference}
use Rattle.cairo_model.specs.Machine.Steps.{Registers, value_arithmetic, RunsTo}
use Rattle.cairo_model.specs.Pie.Records.{MemoryCell, PieRecord, KeepsRules, segment_size, value_at, memory_of}

-- a segment of this size is full of numbers, and in order they are these
pub record HoldsNumbers (cells : List MemoryCell) (segment size : ℕ) (numbers : List ℕ) : Type 0 where
  pub count : length numbers ≡ size
  pub each : (offset : ℕ) → offset < size → value_at cells segment offset ≡ Some (number (slice_index numbers offset))

-- The frame that every run begins with, from cell 0 of the execution segment on: the starts of the segments of its
-- builtins, the caller's frame pointer, and the return address.
abbrev pub HasFrameCell : ℕ → List MemoryCell → ℕ → Type 0
HasFrameCell mask cells i = value_at cells execution_segment i ≡ Some (place (slice_index (frame_segments mask) i) 0)

abbrev pub HasFrame : ℕ → List MemoryCell → Type 0
HasFrame mask cells = (i : ℕ) → i < length (frame_segments mask) → HasFrameCell mask cells i

-- the stack just above the frame
abbrev pub stack_start : ℕ → Datum
stack_start mask = place execution_segment (length (frame_segments mask))

-- the run starts at main, with both pointers at the start of the stack
abbrev pub start_under : ℕ → PieRecord → Registers Datum
start_under mask pie = record { pc = place program_segment pie.main; ap = stack_start mask; fp = stack_start mask }

abbrev pub start_of : PieRecord → Registers Datum
start_of pie = start_under builtin_mask pie

-- the value that stands so many cells below an address
abbrev pub value_below : List MemoryCell → Datum → ℕ → Option Datum
value_below cells address distance = option_and_then (memory_of cells) (Difference address (number distance))

-- the end of a segment
abbrev pub end_of : PieRecord → ℕ → Datum
end_of pie segment = place segment (segment_size pie segment)

-- The cells just below ap are the stop pointers, one for each builtin: the ends of their segments.
abbrev pub HasStopPointer : ℕ → PieRecord → Datum → ℕ → Type 0
HasStopPointer mask pie ap i = value_below pie.cells ap (length (builtin_segments mask) - i) ≡ Some (end_of pie (slice_index (builtin_segments mask) i))

abbrev pub HasStopPointers : ℕ → PieRecord → Datum → Type 0
HasStopPointers mask pie ap = (i : ℕ) → i < length (builtin_segments mask) → HasStopPointer mask pie ap i

-- a state at the return address, with the caller's frame pointer and the stop pointers
pub record IsHome (pie : PieRecord) (state : Registers Datum) : Type 0 where
  pub returned : state.pc ≡ place return_pc_segment 0
  pub restored : state.fp ≡ place return_fp_segment 0
  pub stops : HasStopPointers builtin_mask pie state.ap

-- the states of the run that the PIE claims: so many steps over its own cells, from the start to a state at home
pub record IsolatedRun (pie : PieRecord) (states : List (Registers Datum)) : Type 0 where
  pub last : Registers Datum
  pub runs : RunsTo value_arithmetic (memory_of pie.cells) (start_of pie) states last
  pub count : length states ≡ pie.steps + 1
  pub home : IsHome pie last

-- what a run shows: this program gave these outputs
pub record FactRecord : Type 0 where
  pub program : List ℕ
  pub outputs : List ℕ

-- The program of a PIE and its outputs: the program segment and the output segment are full of numbers, the hash of the
-- first is that of the program, and the second are the outputs.
pub record IsFactOf (pie : PieRecord) (fact : FactRecord) : Type 0 where
  pub code : List ℕ
  pub has_code : HoldsNumbers pie.cells program_segment (segment_size pie program_segment) code
  pub is_program : fact.program ≡ program_hash_of pie.main builtin_mask code
  pub has_outputs : HoldsNumbers pie.cells output_segment (segment_size pie output_segment) fact.outputs

-- the range segment is full of range cells
pub record HasRangeCells (pie : PieRecord) : Type 0 where
  pub numbers : List ℕ
  pub holds : HoldsNumbers pie.cells range_segment (segment_size pie range_segment) numbers
  pub are_range_cells : All IsRangeCell numbers

-- the hash segment is full of whole instances
pub record HasInstances (pie : PieRecord) : Type 0 where
  pub numbers : List ℕ
  pub holds : HoldsNumbers pie.cells hash_segment (segment_size pie hash_segment) numbers
  pub are_instances : AreInstances numbers

-- accepted alone, with this fact and these states
pub record AcceptedWith (pie : PieRecord) (fact : FactRecord) (states : List (Registers Datum)) : Type 0 where
  pub rules : KeepsRules pie
  pub main_in_code : pie.main < segment_size pie program_segment
  pub frame : HasFrame builtin_mask pie.cells
  pub shows : IsFactOf pie fact
  pub range : HasRangeCells pie
  pub hash : HasInstances pie
  pub isolated : IsolatedRun pie states

abbrev pub AcceptedAlone : PieRecord → Type 0
AcceptedAlone pie = (fact : FactRecord) × ((states : List (Registers Datum)) × AcceptedWith pie fact states)

-- what a `Checked` is seen as
pub record CheckedRecord : Type 0 where
  pub pie : PieRecord
  pub fact : FactRecord
  pub states : List (Registers Datum)
