-- Registries of facts: each fact once, in the order of registration.
use Rattle.std.specs.Prelude.{ℕ, List, [], ◌∷◌, ◌++◌, if◌then◌else◌, nat_eq, filter, map}
use Rattle.std.specs.List.{IsDistinct, list_any}
use Rattle.std.specs.Cmp.Lexicographic.{pointwise}
use Rattle.cairo_model.specs.Pie.Acceptance.{FactRecord}
use Rattle.cairo_model.specs.Pie.FactOrder.{same_fact}

-- no fact stands twice
abbrev pub AreDistinctFacts : List FactRecord → Type 0
AreDistinctFacts facts = IsDistinct same_fact facts

-- a fact goes last where it isn't there yet
abbrev pub with_fact : List FactRecord → FactRecord → List FactRecord
with_fact registry fact = if list_any (same_fact fact) registry then registry else registry ++ fact ∷ []

-- so do several, one after the other
abbrev pub with_facts : List FactRecord → List FactRecord → List FactRecord
with_facts registry [] = registry
with_facts registry (fact ∷ facts) = with_facts (with_fact registry fact) facts

-- the outputs of the facts of one program, in the order of registration
abbrev pub outputs_under : List ℕ → List FactRecord → List (List ℕ)
outputs_under program registry = map (λ f. f.outputs) (filter (λ f. pointwise nat_eq f.program program) registry)
