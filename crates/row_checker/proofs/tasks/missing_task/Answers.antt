use Rattle.std.proofs.Common.{below_more}
use Rattle.row_checker.proofs.tasks.missing_task.Goals as goal

pub loop-index-preserved : goal.loop-index-preserved
loop-index-preserved c = below_more _ _ c.loop-index.invariant c.in_default.ensures.none
