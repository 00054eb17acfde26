use Rattle.std.proofs.Common.{◌≡◌, ◌++◌, drop, map}
use Rattle.cairo_model.specs.Views.Pie.{memory_cell}
use Rattle.batch_runner.specs.Layout.{plain_number}
use Rattle.batch_runner.proofs.code.numbers_of.Given as goal

abbrev pub invariant-loop-cell : goal.invariant-loop-cell
invariant-loop-cell l = l.words.items ++ map (λ c. plain_number c.value) (map memory_cell (drop l.cell-index l.cells)) ≡ map (λ c. plain_number c.value) (map memory_cell l.cells)
