use Rattle.std.proofs.Common.{◌≡◌, ◌<◌, rules, ap, subst, length, vec_len, arith}
use Rattle.std.proofs.lemmas.List.{length-map}
use Rattle.turn_lock.proofs.Ended.{closed, no_other}
use Rattle.turn_lock.proofs.lock.TurnLock.close.Goals as goal

pub gather-all-requires-clause-some : goal.gather-all-requires-clause-some
gather-all-requires-clause-some g c =
    let passes : c.self.inside.table.shared.key.passes ≡ c.args.self.passes = ap (λ l. l.passes) c.self.view_is in
    let least = c.self.invariant.2 in
    let zero = c.requires.each 0 (omega arith) in
    let count : vec_len c.args.passes ≡ length c.args.passes.items = search rules in
    let within = zero.1 in
    omega (arith, length-map c.args.passes.items (λ p. p.number))

pub unreachable-requires : goal.unreachable-requires
unreachable-requires g c =
    let passes : c.self.inside.table.shared.key.passes ≡ c.args.self.passes = ap (λ l. l.passes) c.self.view_is in
    no_other g.V.Kept.journal g.V.Kept.turns g.V.Kept.width c.self.inside.table.shared.key.passes _ c.args.passes.items c.gather-all.result.me.0 _ _ c.take-slot.result
    c.close_with-closed.ensures.values.2 c.gather-all.ensures.rests c.gather-all.ensures.parts (λ n small. c.requires.each n (subst (λ k. n < k) passes small)) c.take-slot.ensures.value c.in_default.is

pub returns : goal.returns
returns g c =
    let passes : c.self.inside.table.shared.key.passes ≡ c.args.self.passes = ap (λ l. l.passes) c.self.view_is in
    let ends = closed g.V.Kept.journal g.V.Kept.turns g.V.Kept.width c.self.inside.table.shared.key.passes _ c.args.passes.items c.gather-all.result.me.0 _ _ c.take-slot.result c.in-Some.value
    c.close_with-closed.ensures.values.2 c.gather-all.ensures.rests c.gather-all.ensures.parts (λ n small. c.requires.each n (subst (λ k. n < k) passes small)) c.take-slot.ensures.value c.in-Some.is in
    record { width = ends.wide; seen = ends.seen; mine = ends.mine; others = ends.others }
