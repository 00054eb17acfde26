-- How many of the PIEs that wait make the next batch, as a number.
use Rattle.std.specs.Prelude.{ℕ, zero, suc, ◌&&◌, Bool, List, length, take, nat_le, if◌then◌else◌}
use Rattle.cairo_model.specs.declared.shape.Shape.{Shape}
use Rattle.boot_program.specs.Batch.Limits.{most_batch_cells, most_batch_steps, most_batch_tasks}
use Rattle.batch_plan.specs.Cuts.{IsLongestCut, cells_together, steps_together}

-- whether all of these fit into one batch
abbrev pub fit_one_batch : List Shape → Bool
fit_one_batch shapes = nat_le (length shapes) most_batch_tasks && (nat_le (steps_together shapes) most_batch_steps && nat_le (cells_together shapes) most_batch_cells)

-- the greatest number up to this one that passes the test, and 0 where none does
abbrev pub greatest : (ℕ → Bool) → ℕ → ℕ
greatest test zero = 0
greatest test (suc n) = if test (suc n) then suc n else greatest test n

-- the most of them, from the first on, that fit into one batch
unfoldable pub longest_cut : List Shape → ℕ
longest_cut waiting = greatest (λ n. fit_one_batch (take n waiting)) (length waiting)

abbrev pub CutIsLongest : Type 0
CutIsLongest = (waiting : List Shape) → IsLongestCut waiting (longest_cut waiting)
