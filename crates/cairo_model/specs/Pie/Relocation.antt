-- A field memory that has the cells of a value memory, relocated (docs/MACHINE.md).
use Rattle.std.specs.Prelude.{ℕ, ◌≡◌, List, Option, Some}
use Rattle.cairo_model.specs.Machine.Values.{Datum}
use Rattle.cairo_model.specs.Machine.FieldMemories.{FieldCell, cell_at}
use Rattle.cairo_model.specs.Pie.Layouts.{relocated}

-- the field memory has each cell of the memory, relocated
abbrev pub HasRelocated : List ℕ → (Datum → Option Datum) → (ℕ → Option ℕ) → Type 0
HasRelocated bases m field = (a v : Datum) → m a ≡ Some v → field (relocated bases a) ≡ Some (relocated bases v)

-- the field memory has each of these cells
abbrev pub HasCells : List FieldCell → (ℕ → Option ℕ) → Type 0
HasCells cells field = (address value : ℕ) → cell_at cells address ≡ Some value → field address ≡ Some value
