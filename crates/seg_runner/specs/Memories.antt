-- A memory that grows while a program runs: the size of each of its segments, and what stands at each address
-- (docs/RUNNER.md).
use Rattle.std.specs.Prelude.{ℕ, ◌+◌, nat_le, Bool, ◌&&◌, max, List, sum, slice_index, slice_set, Option, Some, None, is_some, Result, Ok, Err, if◌then◌else◌}
use Rattle.cairo_model.specs.Limits.{most_cells}
use Rattle.cairo_model.specs.Machine.Values.{Datum, number, place, same_datum}
use Rattle.cairo_model.specs.Segments.{execution_segment, hash_segment}
use Rattle.seg_runner.specs.Refusals.{RunCause, over_size}

pub record GrowingMemory : Type 0 where
  pub sizes : List ℕ
  pub cells : Datum → Option Datum

-- a run may put values into the stack and into the segments of the builtins
abbrev pub may_grow : ℕ → Bool
may_grow segment = nat_le execution_segment segment && nat_le segment hash_segment

-- the sizes with room for a cell at this offset of a segment: a size is the highest offset that was put, and one
abbrev pub sizes_with : List ℕ → ℕ → ℕ → List ℕ
sizes_with sizes segment offset = slice_set sizes segment (max (slice_index sizes segment) (offset + 1))

-- the cells with this value at an address
abbrev pub with_cell : (Datum → Option Datum) → Datum → Datum → Datum → Option Datum
with_cell cells at value address = if same_datum address at then Some value else cells address

-- A value is put at a place. In a segment that may not grow nothing is put, and what needs too many cells is refused with
-- the number of the step.
unfoldable pub put_at : ℕ → GrowingMemory → ℕ → ℕ → Datum → Result GrowingMemory RunCause
put_at n m segment offset value =
    if may_grow segment then (if nat_le (sum (sizes_with m.sizes segment offset)) most_cells then Ok (record { sizes = sizes_with m.sizes segment offset; cells = with_cell m.cells (place segment offset) value }) else Err (over_size n))
    else Ok m

abbrev pub put_deduced : ℕ → GrowingMemory → ℕ → ℕ → Option Datum → Result GrowingMemory RunCause
put_deduced n m segment offset None = Ok m
put_deduced n m segment offset (Some value) = put_at n m segment offset value

-- a value that a rule gives, if it does, is put where nothing stands
abbrev pub put_where_absent : ℕ → GrowingMemory → Datum → Option Datum → Result GrowingMemory RunCause
put_where_absent n m (number a) value = Ok m
put_where_absent n m (place segment offset) value = if is_some (m.cells (place segment offset)) then Ok m else put_deduced n m segment offset value
