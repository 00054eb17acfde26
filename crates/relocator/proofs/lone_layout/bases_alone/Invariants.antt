use Rattle.std.proofs.Common.{◌≡◌, ◌+◌, ◌≤◌, ◌++◌, drop, sum, length, map}
use Rattle.cairo_model.specs.Pie.Layouts.{bases_from, lone_bases}
use Rattle.relocator.proofs.lone_layout.bases_alone.Given as goal

abbrev pub invariant-loop-size : goal.invariant-loop-size
invariant-loop-size l =
    (map (λ f. f.number) l.bases.items ++ bases_from l.base (drop l.size-index l.sizes) ≡ lone_bases l.sizes)
    × (l.base + sum (drop l.size-index l.sizes) + length (drop l.size-index l.sizes) ≤ 65601)
