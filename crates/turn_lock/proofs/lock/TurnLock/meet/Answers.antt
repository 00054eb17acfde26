use Rattle.std.proofs.Common.{rules, ap, ◌∙◌}
use Rattle.turn_lock.specs.Views.{settled}
use Rattle.turn_lock.proofs.Logs.{settles_own}
use Rattle.turn_lock.proofs.Permitted.{copies, hears, learns}
use Rattle.turn_lock.proofs.lock.TurnLock.meet.Goals as goal

pub split_seat-note-requires : goal.split_seat-note-requires
split_seat-note-requires g c = (search rules, search rules, copies g.V.Kept.journal g.V.Kept.turns g.V.Kept.width _ _ _ c.other.invariant.0)

pub join_seat-requires : goal.join_seat-requires
join_seat-requires g c =
    let note = c.split_seat-note.ensures.4 in (
      search rules,
      search rules,
      ap (λ m. m.1) note,
      search rules,
      hears g.V.Kept.journal g.V.Kept.turns g.V.Kept.width _ _ _ _ _ c.pass.invariant.0 (ap (λ m. m.0.stage) note) (ap (λ m. m.0.heard) note),
    )

pub load-requires : goal.load-requires
load-requires g c =
    let joined = c.join_seat.ensures.2 in
    let rest = c.pass.invariant.0 in
    (search rules, search rules, learns g.V.Kept.journal g.V.Kept.turns g.V.Kept.width _ _ _ c.join_seat.new.seat.me (ap (λ m. m.0.stage) joined ∙ rest.rests) (ap (λ m. m.0.joined) joined ∙ rest.alone))

pub invariant_of-pass : goal.invariant_of-pass
invariant_of-pass g c =
    let rest = c.pass.invariant.0 in
    let joined = c.join_seat.ensures.2 in
    let tells = c.load.ensures.2 in
    let end = tells.0 ∙ ap (λ m. (settled m.0, m.1)) joined in
    let seen = ap (λ m. m.0.seen) joined in
    let mine = ap (λ m. m.0.mine) joined in
    let number = ap (λ m. m.0.number) joined in
    let heard = ap (λ m. m.0.heard) joined in
    let told = tells.1 _ heard in (
      record { rests = ap (λ m. m.0.stage) end ∙ rest.rests; alone = ap (λ m. m.0.joined) end ∙ rest.alone; quiet = ap (λ m. m.0.heard) end },
      ap (λ m. m.1) end ∙ c.pass.invariant.1,
      ap (λ m. m.0.number) end ∙ c.pass.invariant.2,
      settles_own c.pass.inside.number c.split_seat-note.result.me.0.seen told.1.1.0 c.pass.inside.seat.me.0 c.join_seat.new.seat.me.0 c.load.new.seat.me.0 c.pass.invariant.3 c.pass.invariant.2
          seen mine number heard (ap (λ m. m.0.seen) tells.0) (ap (λ m. m.0.mine) tells.0) told.0 told.1.1.1.0 told.1.1.1.1,
    )
