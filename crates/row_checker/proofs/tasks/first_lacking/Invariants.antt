use Rattle.std.proofs.Common.{ℕ, ◌<◌, map}
use Rattle.cairo_model.specs.Machine.FieldMemories.{cell_at}
use Rattle.cairo_model.specs.Views.Pie.{memory_cell}
use Rattle.row_checker.specs.Working.Tasks.{HasCellAt}
use Rattle.row_checker.proofs.tasks.first_lacking.Given as goal

abbrev pub invariant-loop-index : goal.invariant-loop-index
invariant-loop-index l = (k : ℕ) → k < l.index → HasCellAt (map (λ f. f.number) l.bases) (cell_at l.cells) (map memory_cell l.list) k
