use Rattle.std.proofs.Common.{◌≡◌, rules, ap, sym, ◌∙◌, Some}
use Rattle.std.proofs.lemmas.List.Elements.{All-pop}
use Rattle.turn_lock.proofs.Permitted.{gathers}
use Rattle.turn_lock.proofs.Ended.{gather_first, gather_next}
use Rattle.turn_lock.proofs.lock.TurnLock.gather.Goals as goal

pub loop-pass-init : goal.loop-pass-init
loop-pass-init g c =
    let seat = c.into_seat-all.ensures in
    gather_first c.args.self.now.lock c.args.passes.items c.pop.new.self.items c.in-Some.last c.into_seat-all.result c.in-Some.ensures.items seat.own seat.free seat.rests seat.part c.requires.own

pub join_seat-requires : goal.join_seat-requires
join_seat-requires g c =
    let r = c.loop-pass.invariant in
    let seat = c.into_seat.ensures in
    let here : c.args.self.now.lock ≡ c.self.inside.table.shared.table_id = ap (λ l. l.lock) (sym c.self.view_is) in
    let owns = All-pop (λ q. q.lock ≡ c.args.self.now.lock) c.loop-pass.passes.items c.pop-in-loop-pass.new.self.items (Some c.in-Some-pop.pass) c.in-Some-pop.ensures.items r.rest_own in
    (r.own ∙ here, seat.own ∙ owns.1 ∙ here, seat.free, search rules, gathers g.V.Kept.journal g.V.Kept.turns g.V.Kept.width _ _ _ _ _ r.rests r.quiet seat.rests)

pub loop-pass-preserved : goal.loop-pass-preserved
loop-pass-preserved g c =
    gather_next c.args.self.now.lock c.args.passes.items c.loop-pass.passes.items c.pop-in-loop-pass.new.self.items c.in-Some-pop.pass c.loop-pass.all c.join_seat.new.seat c.into_seat.result.me.0 c.loop-pass.invariant c.in-Some-pop.ensures.items c.into_seat.ensures.part c.join_seat.ensures.0 c.join_seat.ensures.2
