use Rattle.std.proofs.Common.{ℕ, ◌<◌}
use Rattle.desk_core.specs.Working.Registering.{SameTaskAt, checked_in}
use Rattle.desk_core.proofs.same_tasks.first_difference.Given as goal

abbrev pub invariant-loop-index : goal.invariant-loop-index
invariant-loop-index l = (k : ℕ) → k < l.index → SameTaskAt l.tasks (checked_in l.kept) k
