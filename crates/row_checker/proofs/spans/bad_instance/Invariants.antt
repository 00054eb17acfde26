use Rattle.std.proofs.Common.{ℕ, ◌<◌, ◌+◌, ◌*◌}
use Rattle.boot_program.specs.Faults.Rules.{WholeInstanceAt}
use Rattle.cairo_model.specs.Machine.FieldMemories.{cell_at}
use Rattle.row_checker.proofs.spans.bad_instance.Given as goal

abbrev pub invariant-loop-index : goal.invariant-loop-index
invariant-loop-index l = (k : ℕ) → k < l.index → WholeInstanceAt (cell_at l.cells) l.stop.number (l.start.number + 20 * k)
