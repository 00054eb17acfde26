use Rattle.std.proofs.Common.{ℕ, ◌<◌, map}
use Rattle.cairo_model.specs.Pie.Layouts.{IsInBounds, base_of}
use Rattle.cairo_model.proofs.layout.are_in_bounds.Given as goal

abbrev pub invariant-loop-index : goal.invariant-loop-index
invariant-loop-index l = (i : ℕ) → i < l.index → IsInBounds (base_of (map (λ f. f.number) l.bases) i)
