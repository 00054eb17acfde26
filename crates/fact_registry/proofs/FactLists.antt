-- Facts that a comparison tells apart, and registries that grow.
use Rattle.std.proofs.Common.{◌≡◌, refl, ℕ, List, [], ◌∷◌, ◌++◌, Bool, true, false, Contains, ◌⊎◌, inl, inr, nat_eq, if◌then◌else◌, subst, arith, rules}
use Rattle.std.specs.Cmp.{IsEquivalence}
use Rattle.std.specs.Cmp.Rules.{comparing}
use Rattle.std.specs.Cmp.Lexicographic.{pointwise}
use Rattle.std.specs.List.{list_any}
use Rattle.std.proofs.lemmas.Bool.{and_parts}
use Rattle.std.proofs.lemmas.Bool.Decides.{Decides-eqb}
use Rattle.std.proofs.lemmas.List.Elements.{Contains-append_cases, Contains-append_left, Contains-append_right, Contains-push_cases}
use Rattle.std.proofs.lemmas.Map.Views.{Contains-from_any, list_any-from_Contains}
use Rattle.std.proofs.lemmas.Slice.Eq.{slice_eq-Decides}
use Rattle.cairo_model.specs.Pie.Acceptance.{FactRecord}
use Rattle.cairo_model.specs.Pie.FactOrder.{same_fact}
use Rattle.fact_registry.specs.Registries.{with_fact, with_facts}

alike : IsEquivalence same_fact
alike = Prim.search (comparing, rules)

same_texts : (xs ys : List ℕ) → pointwise nat_eq xs ys ≡ true → xs ≡ ys
same_texts xs ys same = (slice_eq-Decides Decides-eqb xs ys (pointwise nat_eq xs ys) refl).0 same

exact : (x y : FactRecord) → same_fact x y ≡ true → x ≡ y
exact x y same =
    let both = and_parts (pointwise nat_eq x.program y.program) (pointwise nat_eq x.outputs y.outputs) same in
    let program = same_texts x.program y.program both.0 in
    let outputs = same_texts x.outputs y.outputs both.1 in
    λ i. record { program = program i; outputs = outputs i }

-- what a comparison finds is there
pub found_is_there : (registry : List FactRecord) (fact : FactRecord) → list_any (same_fact fact) registry ≡ true → Contains registry fact
found_is_there registry fact found = Contains-from_any exact fact registry found

-- what is there is found
pub there_is_found : (registry : List FactRecord) (fact : FactRecord) → Contains registry fact → list_any (same_fact fact) registry ≡ true
there_is_found registry fact there = list_any-from_Contains alike fact registry there

-- ---- one fact more

either_way : (P : List FactRecord → Type 0) (b : Bool) (xs ys : List FactRecord) → (b ≡ true → P xs) → (b ≡ false → P ys) → P (if b then xs else ys)
either_way P true xs ys found missed = found refl
either_way P false xs ys found missed = missed refl

keeps : (registry : List FactRecord) (added fact : FactRecord) → Contains registry fact → Contains (with_fact registry added) fact
keeps registry added fact there =
    either_way (λ r. Contains r fact) (list_any (same_fact added) registry) registry (registry ++ added ∷ []) (λ _. there) (λ _. Contains-append_left registry (added ∷ []) fact there)

puts : (registry : List FactRecord) (added : FactRecord) → Contains (with_fact registry added) added
puts registry added =
    either_way (λ r. Contains r added) (list_any (same_fact added) registry) registry (registry ++ added ∷ []) (λ found. found_is_there registry added found) (λ _. Contains-append_right registry (added ∷ []) added (0, omega arith, refl))

only : (registry : List FactRecord) (added fact : FactRecord) → Contains (with_fact registry added) fact → Contains registry fact ⊎ (added ≡ fact)
only registry added fact =
    either_way (λ r. Contains r fact → Contains registry fact ⊎ (added ≡ fact)) (list_any (same_fact added) registry) registry (registry ++ added ∷ []) (λ _ there. inl there) (λ _ there. Contains-push_cases registry added fact there)

-- ---- several

pub was_or_came : (registry facts : List FactRecord) (fact : FactRecord) → Contains (with_facts registry facts) fact → Contains registry fact ⊎ Contains facts fact
was_or_came registry [] fact there = inl there
was_or_came registry (first ∷ facts) fact there =
    elim (was_or_came (with_fact registry first) facts fact there) [
      | inl early ↦
          elim (only registry first fact early) [
            | inl was ↦ inl was
            | inr is ↦ inr (0, omega arith, is)
          ]
      | inr came ↦ inr (Contains-append_right (first ∷ []) facts fact came)
    ]

pub stays_or_comes : (registry facts : List FactRecord) (fact : FactRecord) → Contains registry fact ⊎ Contains facts fact → Contains (with_facts registry facts) fact
stays_or_comes registry [] fact (inl was) = was
stays_or_comes registry [] fact (inr came) = absurd (omega (arith, came.1))
stays_or_comes registry (first ∷ facts) fact (inl was) = stays_or_comes (with_fact registry first) facts fact (inl (keeps registry first fact was))
stays_or_comes registry (first ∷ facts) fact (inr came) =
    elim (Contains-append_cases (first ∷ []) facts fact came) [
      | inl here ↦
          elim (Contains-push_cases [] first fact here) [
            | inl none ↦ absurd (omega (arith, none.1))
            | inr is ↦ stays_or_comes (with_fact registry first) facts fact (inl (subst (λ f. Contains (with_fact registry first) f) is (puts registry first)))
          ]
      | inr later ↦ stays_or_comes (with_fact registry first) facts fact (inr later)
    ]
