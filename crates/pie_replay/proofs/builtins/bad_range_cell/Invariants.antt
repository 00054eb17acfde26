use Rattle.std.proofs.Common.{ℕ, ◌<◌}
use Rattle.cairo_model.specs.Refusals.ReplayRefusals.{HasRangeCell}
use Rattle.pie_replay.proofs.builtins.bad_range_cell.Given as goal

abbrev pub invariant-loop-offset : goal.invariant-loop-offset
invariant-loop-offset l = (k : ℕ) → k < l.offset → HasRangeCell l.pie.cells k
