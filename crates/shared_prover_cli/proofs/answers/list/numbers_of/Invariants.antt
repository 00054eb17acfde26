use Rattle.std.proofs.Common.{◌≡◌, Some, map, take}
use Rattle.cairo_model.specs.Pie.Facts.{number_or_zero}
use Rattle.cairo_model.specs.Views.Pie.{memory_cell}
use Rattle.shared_prover_cli.proofs.answers.list.numbers_of.Given as goal

abbrev pub invariant-loop-cell : goal.invariant-loop-cell
invariant-loop-cell l = l.numbers.items ≡ map (λ c. number_or_zero (Some c.value)) (map memory_cell (take l.cell-index l.cells))
