use Rattle.std.proofs.Common.{◌≤◌, ◌-◌, length}
use Rattle.desk_core.specs.Kept.{before_sealed}
use Rattle.desk_core.proofs.take.sealed_from.Given as goal

abbrev pub invariant-loop-n : goal.invariant-loop-n
invariant-loop-n l = l.n ≤ before_sealed l.batches

abbrev pub decreases-loop-n : goal.decreases-loop-n
decreases-loop-n l = length l.batches - l.n
