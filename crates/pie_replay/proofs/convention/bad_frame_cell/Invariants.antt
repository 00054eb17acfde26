use Rattle.std.proofs.Common.{ℕ, ◌<◌}
use Rattle.cairo_model.specs.Segments.{builtin_mask}
use Rattle.cairo_model.specs.Pie.Acceptance.{HasFrameCell}
use Rattle.pie_replay.proofs.convention.bad_frame_cell.Given as goal

abbrev pub invariant-loop-index : goal.invariant-loop-index
invariant-loop-index l = (k : ℕ) → k < l.index → HasFrameCell builtin_mask l.pie.cells k
