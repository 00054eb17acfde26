-- A memory of segments: the size of each segment, and a finite map from places to values.
use Rattle.std.specs.Prelude.{ℕ, ◌≡◌, List, slice_index, Option, Some, None}
use Rattle.cairo_model.specs.Machine.Values.{Datum, number, place}
use Rattle.cairo_model.specs.Pie.Records.{MemoryCell, value_at}

-- The size of each segment in cells, and the cells in which a value stands, in the order of segments and offsets.
pub record MemoryRecord : Type 0 where
  pub sizes : List ℕ
  pub cells : List MemoryCell

-- the size of a segment in cells, 0 where there is no such segment
abbrev pub size_of : MemoryRecord → ℕ → ℕ
size_of m segment = slice_index m.sizes segment

-- the value that stands at a place, None where there is none, as outside the segments
abbrev pub cell_of : MemoryRecord → ℕ → ℕ → Option Datum
cell_of m segment offset = value_at m.cells segment offset

-- the memory with values as addresses. A number as an address has no cell.
abbrev pub memory_in : MemoryRecord → Datum → Option Datum
memory_in m (number n) = None
memory_in m (place segment offset) = cell_of m segment offset

-- no value stands in it
abbrev pub IsEmpty : MemoryRecord → Type 0
IsEmpty m = (segment offset : ℕ) → cell_of m segment offset ≡ None

-- a value was put at a place, and nothing else differs
pub record IsPut (old new : MemoryRecord) (segment offset : ℕ) (value : Datum) : Type 0 where
  pub sizes : new.sizes ≡ old.sizes
  pub here : cell_of new segment offset ≡ Some value
  pub elsewhere : (s o : ℕ) → (s ≡ segment → o ≡ offset → ⊥) → cell_of new s o ≡ cell_of old s o

-- each place holds the same in both
abbrev pub HoldsSame : MemoryRecord → MemoryRecord → Type 0
HoldsSame old new = (segment offset : ℕ) → cell_of new segment offset ≡ cell_of old segment offset

-- the values of the memory are those of these cells
abbrev pub HoldsCells : MemoryRecord → List MemoryCell → Type 0
HoldsCells m cells = (segment offset : ℕ) → cell_of m segment offset ≡ value_at cells segment offset
