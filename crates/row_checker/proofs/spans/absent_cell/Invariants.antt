use Rattle.std.proofs.Common.{ℕ, ◌<◌, ◌+◌}
use Rattle.boot_program.specs.Faults.Rules.{IsThere}
use Rattle.cairo_model.specs.Machine.FieldMemories.{cell_at}
use Rattle.row_checker.proofs.spans.absent_cell.Given as goal

abbrev pub invariant-loop-index : goal.invariant-loop-index
invariant-loop-index l = (k : ℕ) → k < l.index → IsThere (cell_at l.cells (l.start.number + k))
