use Rattle.std.proofs.Common.{rules}
use Rattle.cairo_model.specs.declared.shape.Shape.{Shape}
use Rattle.batch_plan.proofs.CutLaws.{stops_at}
use Rattle.batch_plan.proofs.cutting.cut.Goals as goal

pub returns-then-not-are_within_batch-clause-longest :
    goal.returns-then-not-are_within_batch-clause-longest
returns-then-not-are_within_batch-clause-longest c =
    let so_far = c.loop-index.invariant in
    let none : Shape = record { steps = 0; size = 0 } in
    stops_at c.loop-index.index c.loop-index.steps c.loop-index.cells c.args.waiting.now none c.loop-index-test.true so_far.steps_are so_far.cells_are so_far.fit (search rules)
