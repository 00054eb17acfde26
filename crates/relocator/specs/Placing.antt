-- The cells and states of a PIE, placed by a layout.
use Rattle.std.specs.Prelude.{ℕ, ◌≡◌, List, map, Option, Some}
use Rattle.std.specs.List.Sorted.{IsPermutation}
use Rattle.cairo_model.specs.Machine.Values.{Datum}
use Rattle.cairo_model.specs.Pie.Records.{MemoryCell, memory_of}
use Rattle.cairo_model.specs.Machine.FieldMemories.{FieldCell, AddressesRise, cell_at}
use Rattle.cairo_model.specs.Pie.Layouts.{relocated, relocated_cell, relocated_state}
use Rattle.cairo_model.specs.Machine.Steps.{Registers, field_arithmetic, RunsTo}
use Rattle.cairo_model.specs.Pie.Acceptance.{CheckedRecord, IsHome, start_of}
use Rattle.cairo_model.specs.Pie.Relocation.{HasRelocated}

-- a cell of the memory that is found at this address with this value once it is relocated
pub record IsRelocatedCell (bases : List ℕ) (cells : List MemoryCell) (address value : ℕ) : Type 0 where
  pub from : Datum
  pub holds : Datum
  pub stands : memory_of cells from ≡ Some holds
  pub has_address : relocated bases from ≡ address
  pub has_value : relocated bases holds ≡ value

-- These field cells are the cells of the memory, relocated: each of them and no other, by rising addresses.
pub record ArePlaced (bases : List ℕ) (cells : List MemoryCell) (out : List FieldCell) : Type 0 where
  pub rise : AddressesRise out
  pub has_each : HasRelocated bases (memory_of cells) (cell_at out)
  pub has_no_other : (address value : ℕ) → cell_at out address ≡ Some value → IsRelocatedCell bases cells address value
  pub same_cells : IsPermutation (map (relocated_cell bases) cells) out

-- the states are a run over the field from the start of the PIE's isolated run, relocated, to its end
pub record RunsAsPlaced (bases : List ℕ) (checked : CheckedRecord) (field : ℕ → Option ℕ) (states : List (Registers ℕ)) : Type 0 where
  pub last : Registers Datum
  pub home : IsHome checked.pie last
  pub runs : RunsTo field_arithmetic field (relocated_state bases (start_of checked.pie)) states (relocated_state bases last)
