use Rattle.std.proofs.Common.{ℕ, ◌≡◌, ◌<◌, map, slice_get}
use Rattle.cairo_model.specs.Views.Pie.{memory_cell}
use Rattle.desk_core.proofs.same_tasks.same_cells.Given as goal

abbrev pub invariant-loop-index : goal.invariant-loop-index
invariant-loop-index l = (k : ℕ) → k < l.index → slice_get (map memory_cell l.one) k ≡ slice_get (map memory_cell l.other) k
