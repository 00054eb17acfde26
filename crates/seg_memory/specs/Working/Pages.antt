-- A segment's cells in pages, of which the last may have room for more.
use Rattle.std.specs.Prelude.{ℕ, zero, suc, ◌≡◌, ◌*◌, ◌/◌, ◌%◌, ◌<◌, ◌≤◌, List, [], ◌∷◌, ◌++◌, length, sum, map, get_or, slice_index, Option, Some, None}
use Rattle.cairo_model.specs.Limits.{most_cells, most_segments}
use Rattle.cairo_model.specs.Machine.Values.{Datum}
use Rattle.cairo_model.specs.Pie.Records.{MemoryCell}
use Rattle.seg_memory.specs.Memory.{MemoryRecord}

-- how many cells a page has
abbrev pub page_cells : ℕ
page_cells = 256

-- what stands in a cell
abbrev pub page_cell : List (List (Option Datum)) → ℕ → Option Datum
page_cell pages offset = get_or (get_or pages (offset / page_cells) []) (offset % page_cells) None

-- the first of them, so many
abbrev pub listed : (ℕ → Option Datum) → ℕ → List (Option Datum)
listed cell zero = []
listed cell (suc n) = listed cell n ++ cell n ∷ []

-- the pages are full and have room for so many cells, and behind those no value stands in them
pub record IsPaged (pages : List (List (Option Datum))) (size : ℕ) : Type 0 where
  pub full : (k : ℕ) → k < length pages → length (get_or pages k []) ≡ page_cells
  pub room : size ≤ page_cells * length pages
  pub free : (o : ℕ) → size ≤ o → page_cell pages o ≡ None

-- ---- all segments

-- the cell of a place, where a value stands there
abbrev pub one_cell : ℕ → ℕ → Option Datum → List MemoryCell
one_cell segment offset None = []
one_cell segment offset (Some value) = record { segment = segment; offset = offset; value = value } ∷ []

-- behind other cells those of a segment of this size
abbrev pub with_segment : (ℕ → ℕ → Option Datum) → List MemoryCell → ℕ → ℕ → List MemoryCell
with_segment values before segment zero = before
with_segment values before segment (suc size) = with_segment values before segment size ++ one_cell segment size (values segment size)

-- the cells of so many segments
abbrev pub cells_to : (ℕ → ℕ → Option Datum) → List ℕ → ℕ → List MemoryCell
cells_to values sizes zero = []
cells_to values sizes (suc count) = with_segment values (cells_to values sizes count) count (slice_index sizes count)

abbrev pub Segments : Type 0
Segments = List (List (Option Datum))

abbrev pub sizes_of : Segments → List ℕ
sizes_of segments = map (λ cells. length cells) segments

-- what stands at a place
abbrev pub segment_cell : Segments → ℕ → ℕ → Option Datum
segment_cell segments segment offset = get_or (get_or segments segment []) offset None

-- the memory of segments
abbrev pub seen : Segments → MemoryRecord
seen segments = record { sizes = sizes_of segments; cells = cells_to (segment_cell segments) (sizes_of segments) (length segments) }

-- no more segments and cells than a PIE has
pub record AreFew (segments : Segments) : Type 0 where
  pub few : length segments ≤ most_segments
  pub in_all : sum (sizes_of segments) ≤ most_cells
