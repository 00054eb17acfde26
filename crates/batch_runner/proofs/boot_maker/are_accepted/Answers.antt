use Rattle.std.proofs.Common.{All, subst, arith, take_all}
use Rattle.std.proofs.lemmas.List.Elements.{All-more}
use Rattle.batch_runner.specs.Laws.{IsAccepted}
use Rattle.batch_runner.proofs.boot_maker.are_accepted.Goals as goal

pub loop-task-preserved : goal.loop-task-preserved
loop-task-preserved c =
    All-more IsAccepted c.args.tasks.now c.loop-task.task-index c.task-item.result c.loop-task-test.true c.loop-task.invariant
    (subst IsAccepted c.task-item.is c.states-run.ensures.accepted)

pub returns : goal.returns
returns c = subst (All IsAccepted) (take_all c.loop-task.task-index c.args.tasks.now (omega (arith, c.loop-task-test.false))) c.loop-task.invariant
