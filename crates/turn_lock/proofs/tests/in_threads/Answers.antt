use Rattle.std.proofs.Common.{◌≡◌, rules, ap, ◌∙◌, map, length}
use Rattle.turn_lock.proofs.Fresh.{same_mapped, written_back}
use Rattle.turn_lock.proofs.tests.in_threads.Goals as goal

pub returns-clause-numbers : goal.returns-clause-numbers
returns-clause-numbers g c =
    let items = c.args.passes.items in
    let now = c.as_mut_slice.ensures.value in
    let len = c.for_each_mut.auto.s ∙ ap length now in
    let count : c.args.passes.len ≡ length items = search rules in
    ap (map (λ p. p.number)) (written_back items c.for_each_mut.new.s c.args.passes.len len count)
    ∙ same_mapped (λ p. p.number) c.as_mut_slice.result.now c.for_each_mut.new.s c.for_each_mut.auto.s (λ i d small. search rules)
    ∙ ap (map (λ p. p.number)) now
