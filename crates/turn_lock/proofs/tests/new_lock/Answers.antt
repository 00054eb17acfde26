use Rattle.std.proofs.Common.{◌<◌, subst}
use Rattle.turn_lock.proofs.Fresh.{fresh_own, fresh_number}
use Rattle.turn_lock.proofs.tests.new_lock.Goals as goal

pub returns-clause-own : goal.returns-clause-own
returns-clause-own g c = fresh_own c.in_ok-lock.lock.lock 1 c.args.threads c.in_ok-lock.passes.items c.in_ok-lock.ensures.passes

pub returns-clause-all : goal.returns-clause-all
returns-clause-all g c number small = fresh_number c.in_ok-lock.lock.lock 1 c.args.threads c.in_ok-lock.passes.items c.in_ok-lock.ensures.passes number (subst (λ n. number < n) c.in_ok-lock.ensures.count small)
