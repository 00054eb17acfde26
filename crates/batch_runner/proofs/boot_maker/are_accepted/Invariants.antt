use Rattle.std.proofs.Common.{All, take}
use Rattle.batch_runner.specs.Laws.{IsAccepted}
use Rattle.batch_runner.proofs.boot_maker.are_accepted.Given as goal

abbrev pub invariant-loop-task : goal.invariant-loop-task
invariant-loop-task l = All IsAccepted (take l.task-index l.tasks)
