use Rattle.std.proofs.Common.{◌≡◌, ◌+◌, ◌*◌, ◌^◌, ◌≤◌, ◌++◌, drop}
use Rattle.batch_runner.specs.Certificates.{entry_rows}
use Rattle.batch_runner.specs.Working.Placing.{marks_of_all}
use Rattle.batch_runner.proofs.rows.task_marks.Given as goal

abbrev pub invariant-loop-task : goal.invariant-loop-task
invariant-loop-task l =
    (l.marks.items ++ marks_of_all l.before (drop l.task-index l.tasks) ≡ marks_of_all entry_rows l.tasks)
    × (l.before ≤ 4 + l.task-index * 2 ^ 20)
