use Rattle.std.proofs.Common.{◌≡◌, ◌+◌, ◌*◌, ◌^◌, ◌≤◌, drop}
use Rattle.batch_runner.specs.Certificates.{entry_rows}
use Rattle.batch_runner.specs.Working.Placing.{rows_of_all}
use Rattle.batch_runner.proofs.rows.steps_of_all.Given as goal

abbrev pub invariant-loop-task : goal.invariant-loop-task
invariant-loop-task l =
    (l.steps + rows_of_all (drop l.task-index l.tasks) ≡ entry_rows + rows_of_all l.tasks)
    × (l.steps ≤ 4 + l.task-index * 2 ^ 20)
