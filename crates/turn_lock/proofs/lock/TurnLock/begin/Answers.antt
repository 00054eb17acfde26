use Rattle.std.proofs.Common.{rules}
use Rattle.turn_lock.proofs.Allowed.{draws}
use Rattle.turn_lock.proofs.lock.TurnLock.begin.Goals as goal

pub fetch_add-ticket-requires : goal.fetch_add-ticket-requires
fetch_add-ticket-requires g c = (search rules, search rules, draws g.V.Kept.journal g.V.Kept.turns g.V.Kept.width _ _ _ _ c.requires.rests)
