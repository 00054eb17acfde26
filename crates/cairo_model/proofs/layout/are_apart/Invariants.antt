use Rattle.std.proofs.Common.{ℕ, ◌<◌, map}
use Rattle.cairo_model.specs.Pie.Layouts.{IsApart}
use Rattle.cairo_model.proofs.layout.are_apart.Given as goal

abbrev pub invariant-loop-segment : goal.invariant-loop-segment
invariant-loop-segment l = (s : ℕ) → s < l.segment → IsApart (map (λ f. f.number) l.bases) l.sizes s
