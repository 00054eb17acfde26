use Rattle.std.proofs.Common.{ℕ, ◌<◌, map}
use Rattle.cairo_model.specs.Pie.Layouts.{IsApartFrom}
use Rattle.cairo_model.proofs.layout.is_apart.Given as goal

abbrev pub invariant-loop-other : goal.invariant-loop-other
invariant-loop-other l = (t : ℕ) → t < l.other → IsApartFrom (map (λ f. f.number) l.bases) l.sizes l.segment t
