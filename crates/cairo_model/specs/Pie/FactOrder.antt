-- The order of facts.
use Rattle.std.specs.Prelude.{Bool, nat_eq}
use Rattle.std.specs.declared.cmp.Ordering.{Ordering}
use Rattle.std.specs.Cmp.Lexicographic.{pointwise, slice_cmp}
use Rattle.std.specs.Ordering.{eq_of_both, nat_cmp, on, then_cmp}
use Rattle.cairo_model.specs.Pie.Acceptance.{FactRecord}

-- the same words and the same outputs
abbrev pub same_fact : FactRecord → FactRecord → Bool
same_fact = eq_of_both (on (λ f. f.program) (pointwise nat_eq)) (on (λ f. f.outputs) (pointwise nat_eq))

-- by the words of the hash, and then by the outputs, each lexicographically
abbrev pub fact_order : FactRecord → FactRecord → Ordering
fact_order = then_cmp (on (λ f. f.program) (slice_cmp nat_cmp)) (on (λ f. f.outputs) (slice_cmp nat_cmp))
