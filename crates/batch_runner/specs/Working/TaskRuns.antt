-- A task's own run between the bootloader's stretches, over any field memory that has its cells.
use Rattle.std.specs.Prelude.{List, Option, Some, drop, map, ℕ, ◌<◌, ◌≡◌}
use Rattle.boot_program.specs.Cells.{frame_at, state}
use Rattle.boot_program.specs.Turns.{TurnValues, call_at}
use Rattle.cairo_model.specs.Machine.Addresses.{down, up}
use Rattle.cairo_model.specs.Machine.Runs.{Passes}
use Rattle.cairo_model.specs.Machine.Steps.{Registers, field_arithmetic}
use Rattle.cairo_model.specs.Machine.Values.{Datum}
use Rattle.cairo_model.specs.Pie.Acceptance.{AcceptedWith, CheckedRecord, start_of}
use Rattle.cairo_model.specs.Pie.Layouts.{Fits, base_of, relocated, relocated_state}
use Rattle.cairo_model.specs.Pie.Records.{PieRecord, memory_of, segment_size}
use Rattle.cairo_model.specs.Pie.Relocation.{HasRelocated}
use Rattle.goldi_field.specs.Numbers.{prime}
use Rattle.cairo_model.specs.Segments.{hash_segment, output_segment, range_segment}

-- what the task leaves: its states after the first, where its ap ends, and its stops just below
pub record TaskLeaves (m : ℕ → Option ℕ) (bases : List ℕ) (pie : PieRecord) (states : List (Registers Datum)) (home : ℕ) : Type 0 where
  pub is_felt : home < prime
  pub passes : Passes field_arithmetic m pie.steps (relocated_state bases (start_of pie)) (drop 1 (map (relocated_state bases) states)) (state (up (base_of bases 6) 0) home (up (base_of bases 5) 0))
  pub output_stop : m (down home 3) ≡ Some (up (base_of bases output_segment) (segment_size pie output_segment))
  pub range_stop : m (down home 2) ≡ Some (up (base_of bases range_segment) (segment_size pie range_segment))
  pub hash_stop : m (down home 1) ≡ Some (up (base_of bases hash_segment) (segment_size pie hash_segment))

abbrev pub TaskPasses : Type 0
TaskPasses = (m : ℕ → Option ℕ) (bases : List ℕ) (checked : CheckedRecord) → Fits bases checked.pie.sizes
    → (accepted : AcceptedWith checked.pie checked.fact checked.states) → HasRelocated bases (memory_of checked.pie.cells) m
    → TaskLeaves m bases checked.pie checked.states (relocated bases accepted.isolated.last.ap)

-- The layout puts the task where the bootloader calls it: its program at the address that the call names, its frame just below the
-- call's pointers, and its return addresses at the bootloader's frame for it and at the address after the call.
pub record StandsAtCall (a : ℕ) (n : TurnValues) (bases : List ℕ) (pie : PieRecord) : Type 0 where
  pub program : base_of bases 0 ≡ n.task.program
  pub main : pie.main ≡ n.task.main
  pub execution : up (base_of bases 1) 5 ≡ up (call_at a n) 2
  pub frame : base_of bases 5 ≡ frame_at a
  pub home : base_of bases 6 ≡ 106
