use Rattle.std.proofs.Common.{◌≡◌}
use Rattle.turn_lock.proofs.tests.take_turns.Given as goal

abbrev pub invariant-loop-note : goal.invariant-loop-note
invariant-loop-note g l = (l.pass.lock ≡ l.fn.pass.lock) × (l.pass.number ≡ l.fn.pass.number)
