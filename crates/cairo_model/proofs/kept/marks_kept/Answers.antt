use Rattle.std.proofs.Common.{arith}
use Rattle.cairo_model.proofs.TypeFacts.{one_more}
use Rattle.cairo_model.proofs.kept.marks_kept.Goals as goal

pub loop-mark-preserved : goal.loop-mark-preserved
loop-mark-preserved c = one_more c.args.marks.now c.loop-mark.mark-index c.mark-item.result c.loop-mark.invariant c.loop-mark-test.true c.mark-item.is c.mark_kept.ensures

pub returns : goal.returns
returns c k d lt = c.loop-mark.invariant k d (omega arith)
