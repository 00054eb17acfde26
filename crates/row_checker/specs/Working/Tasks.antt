-- A task and its mark by themselves, whatever their number.
use Rattle.std.specs.Prelude.{ℕ, ◌≡◌, ◌+◌, ◌⊎◌, List, length, map, take, drop, slice_get, Option, Some}
use Rattle.cairo_model.specs.Certificate.Records.{CertRecord, MarkRecord}
use Rattle.cairo_model.specs.Machine.FieldMemories.{cell_at}
use Rattle.cairo_model.specs.Machine.Steps.{Registers}
use Rattle.cairo_model.specs.Machine.Values.{Datum, place}
use Rattle.cairo_model.specs.Pie.Acceptance.{CheckedRecord}
use Rattle.cairo_model.specs.Pie.Layouts.{relocated, relocated_state}
use Rattle.cairo_model.specs.Pie.Records.{MemoryCell, memory_of}
use Rattle.cairo_model.specs.Pie.Relocation.{HasRelocated}
use Rattle.cairo_model.specs.Segments.{return_pc_segment}
use Rattle.boot_program.specs.Faults.Tasks.{IsFirstMissing}

-- the field memory has the cell, relocated
abbrev pub HasCell : List ℕ → (ℕ → Option ℕ) → MemoryCell → Type 0
HasCell bases field c = field (relocated bases (place c.segment c.offset)) ≡ Some (relocated bases c.value)

-- and so the one of this index, if there is one
abbrev pub HasCellAt : List ℕ → (ℕ → Option ℕ) → List MemoryCell → ℕ → Type 0
HasCellAt bases field cells k = (c : MemoryCell) → slice_get cells k ≡ Some c → HasCell bases field c

-- the states from a row on are these, relocated
abbrev pub IsStretch : List (Registers ℕ) → ℕ → List ℕ → List (Registers Datum) → Type 0
IsStretch states row bases run = take (length run) (drop row states) ≡ map (relocated_state bases) run

-- the task stands where its mark says
pub record StandsAt (cert : CertRecord) (mark : MarkRecord) (task : CheckedRecord) : Type 0 where
  pub one_base_each : length mark.bases ≡ length task.pie.sizes
  pub has_cells : HasRelocated mark.bases (memory_of task.pie.cells) (cell_at cert.cells)
  pub has_states : take (task.pie.steps + 1) (drop mark.row cert.states) ≡ map (relocated_state mark.bases) task.states

-- the place that shows why it doesn't
abbrev pub ShowsPlaced : CertRecord → MarkRecord → CheckedRecord → ℕ → ℕ → Type 0
ShowsPlaced cert mark task segment offset =
    ((length mark.bases ≡ length task.pie.sizes) × IsFirstMissing mark.bases task.pie.cells (cell_at cert.cells) segment offset)
    ⊎ ((segment ≡ return_pc_segment) × ((offset ≡ 0)
    × (length mark.bases ≡ length task.pie.sizes → (t q : ℕ) → ¬ IsFirstMissing mark.bases task.pie.cells (cell_at cert.cells) t q)))
