use Rattle.std.proofs.Common.{[], ◌∷◌, ◌++◌, Some, ap, sym, subst, ◌∙◌}
use Rattle.atomic_table.specs.Table.{opening}
use Rattle.turn_lock.specs.Views.{newcomer}
use Rattle.turn_lock.specs.Tables.{Standing}
use Rattle.turn_lock.proofs.Permitted.{opens}
use Rattle.turn_lock.proofs.lock.TurnLock.new.Goals as goal

pub new-requires : goal.new-requires
new-requires g c =
    let t = c.turns-turns.result in
    let slots = c.push.new.self.items in
    let is = c.in_ok-push.ensures.items ∙ ap (λ xs. xs ++ Some c.args.value ∷ []) c.in_ok-slots.ensures.items in
    subst (λ y. Standing g.V.Kept.journal g.V.Kept.turns g.V.Kept.width c.args.passes (opening (t ∷ t ∷ []) slots (newcomer 0 (g.V.Kept.width y) 1))) (sym c.of.ensures)
    (opens g.V.Kept.journal g.V.Kept.turns g.V.Kept.width c.args.passes c.args.value t slots is c.requires.some c.ranges.passes.fits c.turns-turns.type_inv (sym c.turns-turns.ensures) c.requires.empty)
