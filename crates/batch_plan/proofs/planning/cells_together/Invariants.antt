use Rattle.batch_plan.specs.Parts.{sizes_of_all}
use Rattle.batch_plan.specs.Working.Parts.{parts_of_code}
use Rattle.batch_plan.proofs.Sizes.{AreSummed}
use Rattle.batch_plan.proofs.planning.cells_together.Given as goal

abbrev pub invariant-loop-task : goal.invariant-loop-task
invariant-loop-task l = AreSummed (sizes_of_all l.tasks) l.task-index (parts_of_code l.parts)
