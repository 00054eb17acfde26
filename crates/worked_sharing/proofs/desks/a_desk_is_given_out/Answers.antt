use Rattle.std.proofs.Common.{ℕ, ◌<◌, subst}
use Rattle.turn_lock.proofs.Fresh.{fresh_number}
use Rattle.worked_sharing.proofs.desks.a_desk_is_given_out.Goals as goal

-- the passes of a new desk have all its numbers
pub finish-desk-requires-clause-each : goal.finish-desk-requires-clause-each
finish-desk-requires-clause-each g c κs =
    λ number small. fresh_number c.in_ok-shared.shared.lock 2 3 c.in_ok-shared.passes.items c.in_ok-shared.ensures.passes number (subst (λ (n : ℕ). number < n) c.in_ok-shared.ensures.count small)
