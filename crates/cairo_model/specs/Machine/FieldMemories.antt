-- A field memory as a list of its cells, which is a finite map since the addresses rise.
use Rattle.std.specs.Prelude.{ℕ, ◌≡◌, ◌==◌, List, map, find, Option, Some, option_map}
use Rattle.std.specs.List.Sorted.{IsStrictlyIncreasing}
use Rattle.goldi_field.specs.Numbers.{IsFelt}
use Rattle.goldi_field.specs.declared.Felt.{Felt}

-- an address and its value
abbrev pub FieldCell : Type 0
FieldCell = ℕ × ℕ

abbrev pub field_cell : Felt × Felt → FieldCell
field_cell c = (c.0.number, c.1.number)

abbrev pub addresses : List FieldCell → List ℕ
addresses cells = map (λ c. c.0) cells

-- the value of the cell at an address
abbrev pub cell_at : List FieldCell → ℕ → Option ℕ
cell_at cells address = option_map (λ c. c.1) (find (λ c. c.0 == address) cells)

-- the addresses rise strictly
abbrev pub AddressesRise : List FieldCell → Type 0
AddressesRise cells = IsStrictlyIncreasing (addresses cells)

-- an address and a value that are field numbers
pub record IsCell (c : FieldCell) : Type 0 where
  pub address : IsFelt c.0
  pub value : IsFelt c.1

-- A memory over the field: its values are field numbers. The machine's equations over numbers say what a step does only
-- where this holds.
abbrev pub IsFieldMemory : (ℕ → Option ℕ) → Type 0
IsFieldMemory m = (address value : ℕ) → m address ≡ Some value → IsFelt value
