use Rattle.std.proofs.Common.{◌≡◌, ◌+◌, ◌*◌, ◌^◌, ◌≤◌, ◌++◌, drop, map}
use Rattle.batch_plan.specs.Plans.{bases_on}
use Rattle.batch_plan.proofs.bases.push_others.Given as goal

abbrev pub invariant-loop-size : goal.invariant-loop-size
invariant-loop-size l =
    (map (λ f. f.number) l.out.items ++ bases_on l.base (drop l.size-index l.sizes) ≡ map (λ f. f.number) l.fn.bases.items ++ bases_on l.start l.sizes)
    × (l.base ≤ 2 ^ 40 + l.size-index * 2 ^ 32)
