use Rattle.std.proofs.Common.{below_more, arith, rules}
use Rattle.std.proofs.lemmas.List.{length-map}
use Rattle.desk_core.specs.Working.Registering.{checked_in}
use Rattle.desk_core.specs.declared.job.Job.{Job}
use Rattle.desk_core.proofs.SameLists.{same_lists}
use Rattle.desk_core.proofs.same_tasks.first_difference.Goals as goal

pub loop-index-preserved : goal.loop-index-preserved
loop-index-preserved c = below_more _ _ c.loop-index.invariant (c.same_at.ensures.tasks c.if-not-same_at.false)

pub returns : goal.returns
returns c =
    same_lists c.longer-index-end.result c.args.tasks.now (checked_in c.args.kept.now) c.longer-index-end.ensures.one (omega (arith, c.longer-index-end.ensures.other, length-map c.args.kept.now (λ (j : Job). j.checked)))
    (λ k lt. c.loop-index.invariant k (search rules))
