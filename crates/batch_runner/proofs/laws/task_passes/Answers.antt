use Rattle.batch_runner.proofs.TaskRuns as tasks
use Rattle.batch_runner.proofs.laws.task_passes.Goals as goal

pub returns : goal.returns
returns c m bases checked fits accepted has = tasks.task_passes m bases checked fits (c.keeps_arithmetic.ensures bases) accepted has
    (c.runs_anywhere.ensures bases checked.pie fits accepted.rules)
