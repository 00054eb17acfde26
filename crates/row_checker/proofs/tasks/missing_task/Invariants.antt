use Rattle.std.proofs.Common.{ℕ, ◌<◌}
use Rattle.boot_program.specs.Faults.Tasks.{TaskStands}
use Rattle.row_checker.proofs.tasks.missing_task.Given as goal

abbrev pub invariant-loop-index : goal.invariant-loop-index
invariant-loop-index l = (k : ℕ) → k < l.index → TaskStands l.cert l.tasks k
