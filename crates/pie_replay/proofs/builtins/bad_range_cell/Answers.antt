use Rattle.std.proofs.Common.{below_more}
use Rattle.pie_replay.proofs.builtins.bad_range_cell.Goals as goal

pub loop-offset-preserved : goal.loop-offset-preserved
loop-offset-preserved c = below_more _ _ c.loop-offset.invariant (c.has_range_cell.ensures.0 c.if-not-has_range_cell.false)
