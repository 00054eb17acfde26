use Rattle.std.proofs.Common.{rules, ap, ◌∙◌, Some}
use Rattle.turn_lock.proofs.Allowed.{alone_carried}
use Rattle.turn_lock.proofs.lock.TurnLock.take_out.Goals as goal

pub exchange-requires : goal.exchange-requires
exchange-requires g c = (search rules, (Some c.requires.due.0, alone_carried c.loop.seat.me.1 _ (ap (λ m. m.1) c.loop.invariant.0 ∙ c.requires.due.1)))
