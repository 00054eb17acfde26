-- A position-independent execution (PIE) as plain data, and the rules that each one keeps (docs/PIE.md).
use Rattle.std.specs.Prelude.{ℕ, ◌≡◌, ◌+◌, ◌*◌, ◌^◌, ◌<◌, ◌≤◌, ◌==◌, ◌&&◌, Bool, List, length, map, sum, slice_index, find, All, Option, None, option_map}
use Rattle.std.specs.List.Sorted.{IsStrictlyIncreasing}
use Rattle.goldi_field.specs.Numbers.{IsFelt}
use Rattle.cairo_model.specs.Limits.{least_segments, most_segments, most_cells, most_steps, offset_limit}
use Rattle.cairo_model.specs.Segments.{return_fp_segment, return_pc_segment}
use Rattle.cairo_model.specs.Machine.Values.{Datum, number, place}

-- a cell of the memory: the segment and offset where it stands, and its value
pub record MemoryCell : Type 0 where
  pub segment : ℕ
  pub offset : ℕ
  pub value : Datum

-- where main begins in the program, how many steps the run takes, the size of each segment, and the memory
pub record PieRecord : Type 0 where
  pub main : ℕ
  pub steps : ℕ
  pub sizes : List ℕ
  pub cells : List MemoryCell

-- the size of a segment in cells, 0 where there is no such segment
abbrev pub segment_size : PieRecord → ℕ → ℕ
segment_size pie segment = slice_index pie.sizes segment

-- A place as one number. Offsets are below 2 ^ 32, so these numbers rise where the pairs (segment, offset) do.
abbrev pub place_number : ℕ → ℕ → ℕ
place_number segment offset = segment * 2 ^ 32 + offset

-- a field number, or a place of one of so many segments at an offset below the limit
abbrev pub IsValueIn : ℕ → Datum → Type 0
IsValueIn segments (number n) = IsFelt n
IsValueIn segments (place s o) = record { in_segments : s < segments; is_near : o < offset_limit }

-- a cell below the size of its segment, with such a value
pub record IsCellOf (sizes : List ℕ) (cell : MemoryCell) : Type 0 where
  pub in_segments : cell.segment < length sizes
  pub in_size : cell.offset < slice_index sizes cell.segment
  pub has_value : IsValueIn (length sizes) cell.value

abbrev pub place_numbers : List MemoryCell → List ℕ
place_numbers cells = map (λ c. place_number c.segment c.offset) cells

-- the cells rise strictly by segment, and within a segment by offset
abbrev pub Rise : List MemoryCell → Type 0
Rise cells = IsStrictlyIncreasing (place_numbers cells)

-- neither too few segments nor too many, of which the two return segments are empty, and not too many cells in all
pub record AreSizes (sizes : List ℕ) : Type 0 where
  pub at_least : least_segments ≤ length sizes
  pub at_most : length sizes ≤ most_segments
  pub no_return_fp : slice_index sizes return_fp_segment ≡ 0
  pub no_return_pc : slice_index sizes return_pc_segment ≡ 0
  pub in_all : sum sizes ≤ most_cells

pub record KeepsRules (pie : PieRecord) : Type 0 where
  pub are_sizes : AreSizes pie.sizes
  pub few_steps : pie.steps ≤ most_steps
  pub are_cells : All (IsCellOf pie.sizes) pie.cells
  pub rise : Rise pie.cells

-- whether a cell stands at this place
abbrev pub stands_at : ℕ → ℕ → MemoryCell → Bool
stands_at segment offset c = c.segment == segment && c.offset == offset

-- the value of the cell that stands at a place
abbrev pub value_at : List MemoryCell → ℕ → ℕ → Option Datum
value_at cells segment offset = option_map (λ c. c.value) (find (stands_at segment offset) cells)

-- The cells as a value memory. A number as an address has no cell.
abbrev pub memory_of : List MemoryCell → Datum → Option Datum
memory_of cells (number a) = None
memory_of cells (place segment offset) = value_at cells segment offset
