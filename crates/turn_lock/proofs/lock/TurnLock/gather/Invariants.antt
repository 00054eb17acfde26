use Rattle.turn_lock.proofs.Ended.{Gathering}
use Rattle.turn_lock.proofs.lock.TurnLock.gather.Given as goal

abbrev pub invariant-loop-pass : goal.invariant-loop-pass
invariant-loop-pass g l = Gathering l.fn.self.lock l.fn.passes.items l.passes.items l.all

abbrev pub decreases-loop-pass : goal.decreases-loop-pass
decreases-loop-pass g l = l.passes.len
