use Rattle.std.proofs.Common.{ℕ, ◌<◌}
use Rattle.cairo_model.specs.Segments.{builtin_mask}
use Rattle.cairo_model.specs.Pie.Acceptance.{HasStopPointer}
use Rattle.cairo_model.specs.Views.Machine.{datum}
use Rattle.pie_replay.proofs.convention.bad_stop_pointer.Given as goal

abbrev pub invariant-loop-i : goal.invariant-loop-i
invariant-loop-i l = (k : ℕ) → k < l.i → HasStopPointer builtin_mask l.pie (datum l.ap) k
