use Rattle.std.proofs.Common.{rules, ap, ◌∙◌}
use Rattle.turn_lock.proofs.Allowed.{looks}
use Rattle.turn_lock.proofs.lock.TurnLock.look.Goals as goal

pub load-requires : goal.load-requires
load-requires g c = (search rules, search rules, looks g.V.Kept.journal g.V.Kept.turns g.V.Kept.width _ _ _ _ c.args.ticket (ap (λ m. m.0.stage) c.loop.invariant.0 ∙ c.requires.waits))

pub loop-preserved : goal.loop-preserved
loop-preserved g c =
    let told = c.load.ensures.2 c.args.ticket (ap (λ m. m.0.stage) c.loop.invariant.0 ∙ c.requires.waits) in
    (told.1 c.if-load-ticket.false ∙ c.loop.invariant.0, search rules)
