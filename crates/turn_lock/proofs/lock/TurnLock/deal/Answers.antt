use Rattle.std.proofs.Common.{◌≡◌, [], ◌∷◌, ◌++◌, ◌-◌, map, rules, arith, ap, ap₂, sym, ◌∙◌}
use Rattle.std.specs.List.{range_with_len}
use Rattle.std.proofs.lemmas.List.FromFn.{map-range_with_len_more}
use Rattle.turn_lock.specs.Views.{dealt, next_pass}
use Rattle.turn_lock.specs.Passes.{Token, fresh}
use Rattle.turn_lock.proofs.Permitted.{deals}
use Rattle.turn_lock.proofs.lock.TurnLock.deal.Goals as goal

pub split_seat-seat-requires : goal.split_seat-seat-requires
split_seat-seat-requires g c =
    let first = c.loop-number.invariant.0 in
    let made = ap (λ m. m.0.made) first in
    let least = c.loop-number.auto.number in
    let all : c.args.passes ≡ c.self.inside.table.shared.key.passes = c.requires.all ∙ ap (λ l. l.passes) (sym c.self.view_is) in
    let below = c.loop-number-test.true in
    (search rules, search rules, deals g.V.Kept.journal g.V.Kept.turns g.V.Kept.width _ _ _ record { rests = ap (λ m. m.0.stage) first; alone = ap (λ m. m.0.joined) first; quiet = ap (λ m. m.0.heard) first } (omega arith) (omega arith))

pub loop-number-preserved : goal.loop-number-preserved
loop-number-preserved g c =
    let inv = c.loop-number.invariant in
    let width = c.args.first.me.0.width in
    let n = c.loop-number.number in
    let split = c.split_seat-seat.ensures in
    let least = c.loop-number.auto.number in
    let value : (let m = c.split_seat-seat.result.me in let t : Token g.row.V-Note.Denot = record { lock = c.split_seat-seat.result.table_id; number = n; width = m.0.width; seen = m.0.seen; mine = m.0.mine } in t) ≡ fresh c.args.self.now.lock width n =
    ap₂ (λ z m. record { lock = z; number = n; width = m.0.width; seen = m.0.seen; mine = m.0.mine }) (split.3 ∙ inv.1 ∙ c.requires.own) (split.4 ∙ ap (λ m. (next_pass m.0, [])) inv.0) in
    let items = c.in_ok-push.ensures.items in (
      split.2 ∙ ap (λ m. (dealt m.0, m.1)) inv.0,
      split.0 ∙ inv.1,
      items ∙ ap₂ (λ xs x. xs ++ x ∷ []) inv.2 value ∙ sym (map-range_with_len_more (fresh c.args.self.now.lock width) 1 (n - 1) n (omega arith)) ∙ ap (λ k. map (fresh c.args.self.now.lock width) (range_with_len 1 k)) (omega arith),
    )
