-- The registry has exactly the facts of the jobs in registered batches, and only a registration changes them.
use Rattle.std.proofs.Common.{◌≡◌, inl, inr, ℕ, zero, suc, List, [], ◌∷◌, ◌++◌, map, refl, sym, ap, ◌∙◌, subst, arith}
use Rattle.std.specs.List.{flat_map}
use Rattle.std.specs.Option.{option_map_or}
use Rattle.std.specs.Prelude.{All, Contains, slice_get, None}
use Rattle.std.proofs.lemmas.List.{map-append, append-nil}
use Rattle.std.proofs.lemmas.Grind.{flat_map-append}
use Rattle.std.proofs.lemmas.List.Concat.{flat_map-cons}
use Rattle.std.proofs.lemmas.List.Elements.{All-head, All-tail, Contains-append_cases, Contains-append_left, Contains-append_right}
use Rattle.cairo_model.specs.Pie.Acceptance.{FactRecord}
use Rattle.desk_core.specs.Desks.{PlainDesk, PlainJob, PlainBatch, jobs_at, jobs_in, registered_jobs, shown_facts, set_phase}
use Rattle.cairo_model.specs.Pie.Facts.{fact_of}
use Rattle.desk_core.specs.SoundDesks.{IsBatchOf, IsSound}
use Rattle.fact_registry.specs.Registries.{with_fact, with_facts}
use Rattle.fact_registry.proofs.FactLists.{stays_or_comes, was_or_came}
use Rattle.desk_core.specs.RegisteredFacts.{RegistryLaw}
use Rattle.desk_core.specs.Next.{after_register}
use Rattle.desk_core.specs.declared.phase.Phase.{Phase}
use Rattle.desk_core.specs.declared.phase.Phase.TheVariants as phase
use Rattle.desk_core.proofs.BatchLemmas.{phase_in}
use Rattle.desk_core.proofs.ListFacts.{stretch_more}

-- ---- members

in_head : {X : Type 0} (x : X) (xs : List X) (y : X) → x ≡ y → Contains (x ∷ xs) y
in_head x xs y e = (0, omega arith, e)

in_tail : {X : Type 0} (x : X) (xs : List X) (y : X) → Contains xs y → Contains (x ∷ xs) y
in_tail x xs y (k, lt, is) = (suc k, omega (arith, lt), is)

either_in : {X R : Type 0} (x : X) (xs : List X) (y : X) → Contains (x ∷ xs) y → (x ≡ y → R) → (Contains xs y → R) → R
either_in x xs y (zero, lt, is) here there = here is
either_in x xs y (suc k, lt, is) here there = there (k, omega (arith, lt), is)

no_member : {X R : Type 0} (y : X) → Contains [] y → R
no_member y (k, lt, is) = absurd (omega (arith, lt))

-- ---- what is added

pub with_facts-append : (registry xs ys : List FactRecord) → with_facts registry (xs ++ ys) ≡ with_facts (with_facts registry xs) ys
with_facts-append registry [] ys = refl
with_facts-append registry (x ∷ xs) ys = with_facts-append (with_fact registry x) xs ys

-- ---- the jobs of the batches in a list

pub flat_has : (f : ℕ → List PlainJob) (bs : List ℕ) (j : PlainJob) → Contains (flat_map f bs) j → (b : ℕ) × (Contains bs b × Contains (f b) j)
flat_has f [] j h = no_member j h
flat_has f (b ∷ bs) j h = elim (Contains-append_cases (f b) (flat_map f bs) j (subst (λ (js : List PlainJob). Contains js j) (flat_map-cons f b bs) h)) [
  | inl here ↦ (b, (in_head b bs b refl, here))
  | inr there ↦ let rest = flat_has f bs j there in (rest.0, (in_tail b bs rest.0 rest.1.0, rest.1.1))
]

pub has_flat : (f : ℕ → List PlainJob) (bs : List ℕ) (b : ℕ) (j : PlainJob) → Contains bs b → Contains (f b) j → Contains (flat_map f bs) j
has_flat f [] b j at h = no_member b at
has_flat f (c ∷ bs) b j at h = subst (λ (js : List PlainJob). Contains js j) (sym (flat_map-cons f c bs))
    (either_in c bs b at
    (λ same. Contains-append_left (f c) (flat_map f bs) j (subst (λ (k : ℕ). Contains (f k) j) (sym same) h))
    (λ there. Contains-append_right (f c) (flat_map f bs) j (has_flat f bs b j there h)))

pub facts_have : (js : List PlainJob) (fact : FactRecord) → Contains (map (λ (j : PlainJob). fact_of j.pie) js) fact → (j : PlainJob) × (Contains js j × (fact_of j.pie ≡ fact))
facts_have [] fact h = no_member fact h
facts_have (j ∷ js) fact h = either_in (fact_of j.pie) _ fact h
    (λ same. (j, (in_head j js j refl, same)))
    (λ there. let rest = facts_have js fact there in (rest.0, (in_tail j js rest.0 rest.1.0, rest.1.1)))

pub have_facts : (js : List PlainJob) (j : PlainJob) (fact : FactRecord) → Contains js j → fact_of j.pie ≡ fact → Contains (map (λ (x : PlainJob). fact_of x.pie) js) fact
have_facts [] j fact h is = no_member j h
have_facts (x ∷ js) j fact h is = either_in x js j h
    (λ same. in_head (fact_of x.pie) _ fact (ap (λ (y : PlainJob). fact_of y.pie) same ∙ is))
    (λ there. in_tail (fact_of x.pie) _ fact (have_facts js j fact there is))

pub registry_law : RegistryLaw
registry_law d s fact = (
  (λ h. elim (was_or_came [] (shown_facts d) fact h) [
    | inl none ↦ no_member fact none
    | inr in_facts ↦
        let job = facts_have (registered_jobs d) fact in_facts in
        let batch = flat_has (jobs_at d) d.registered job.0 job.1.0 in
        (batch.0, ((s.registered batch.0).0 batch.1.0, (batch.1.1.0, job.0, batch.1.1.1, batch.1.1.2, job.1.1)))
  ]),
  (λ shown.
      let batch = (s.registered shown.0).1 shown.1.0 in
      let at = shown.1.1 in
      stays_or_comes [] (shown_facts d) fact
      (inr (have_facts (registered_jobs d) at.1 fact (has_flat (jobs_at d) d.registered shown.0 at.1 batch (at.0, at.2, at.3)) at.4))),
)

-- ---- what changes them

flat_same : (f g : ℕ → List PlainJob) (bs : List ℕ) → ((b : ℕ) → Contains bs b → f b ≡ g b) → flat_map f bs ≡ flat_map g bs
flat_same f g [] same = refl
flat_same f g (b ∷ bs) same =
    flat_map-cons f b bs
    ∙ (ap (λ (js : List PlainJob). js ++ flat_map f bs) (same b (in_head b bs b refl))
    ∙ (ap (λ (js : List PlainJob). g b ++ js) (flat_same f g bs (λ c at. same c (in_tail b bs c at))) ∙ sym (flat_map-cons g b bs)))

abbrev pub at_in : List PlainJob → List PlainBatch → ℕ → List PlainJob
at_in jobs bs b = option_map_or (jobs_in jobs) (slice_get bs b) []

at_more : (jobs : List PlainJob) (j : PlainJob) (bs : List PlainBatch) (b : ℕ) → All (IsBatchOf jobs) bs → at_in (jobs ++ j ∷ []) bs b ≡ at_in jobs bs b
at_more jobs j [] b all = refl
at_more jobs j (x ∷ bs) zero all = stretch_more x.count x.first jobs (j ∷ []) (All-head (IsBatchOf jobs) x bs all).within
at_more jobs j (x ∷ bs) (suc b) all = at_more jobs j bs b (All-tail (IsBatchOf jobs) x bs all)

at_push : (jobs : List PlainJob) (bs : List PlainBatch) (x : PlainBatch) (b : ℕ) → phase_in bs b ≡ phase.Registered → at_in jobs (bs ++ x ∷ []) b ≡ at_in jobs bs b
at_push jobs [] x b is = absurd (cc)
at_push jobs (y ∷ bs) x zero is = refl
at_push jobs (y ∷ bs) x (suc b) is = at_push jobs bs x b is

pub at_moved : (jobs : List PlainJob) (bs : List PlainBatch) (c : ℕ) (p : Phase) (b : ℕ) → at_in jobs (set_phase bs c p) b ≡ at_in jobs bs b
at_moved jobs [] c p b = refl
at_moved jobs (x ∷ bs) zero p zero = refl
at_moved jobs (x ∷ bs) zero p (suc b) = refl
at_moved jobs (x ∷ bs) (suc c) p zero = refl
at_moved jobs (x ∷ bs) (suc c) p (suc b) = at_moved jobs bs c p b

abbrev facts_in : List PlainJob → List FactRecord
facts_in js = map (λ j. fact_of j.pie) js

pub facts_with_job : (d : PlainDesk) → IsSound d → (j : PlainJob) → shown_facts (record d { jobs = d.jobs ++ j ∷ [] }) ≡ shown_facts d
facts_with_job d s j = ap facts_in (flat_same _ _ d.registered (λ b at. at_more d.jobs j d.batches b s.batches))

pub facts_sealed : (d : PlainDesk) → IsSound d → (x : PlainBatch) → shown_facts (record d { batches = d.batches ++ x ∷ [] }) ≡ shown_facts d
facts_sealed d s x = ap facts_in (flat_same _ _ d.registered (λ b at. at_push d.jobs d.batches x b ((s.registered b).0 at)))

pub facts_moved : (d : PlainDesk) (b : ℕ) (p : Phase) → shown_facts (record d { batches = set_phase d.batches b p }) ≡ shown_facts d
facts_moved d b p = ap facts_in (flat_same _ _ d.registered (λ c at. at_moved d.jobs d.batches b p c))

pub facts_registered : (d : PlainDesk) (b : ℕ) → shown_facts (after_register d b None) ≡ shown_facts d ++ facts_in (jobs_at d b)
facts_registered d b =
    ap facts_in (flat_same _ (jobs_at d) (d.registered ++ b ∷ []) (λ c at. at_moved d.jobs d.batches b phase.Registered c))
    ∙ (ap facts_in (flat_map-append (jobs_at d) d.registered (b ∷ [])) ∙ map-append (λ (j : PlainJob). fact_of j.pie) (registered_jobs d) _ ∙ ap (λ (js : List PlainJob). shown_facts d ++ facts_in js) (append-nil (jobs_at d b)))
