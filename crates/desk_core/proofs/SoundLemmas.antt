-- Each event keeps a desk sound.
use Rattle.std.proofs.Common.{◌≡◌, ◌≢◌, inl, inr, ◌↔◌, ℕ, zero, suc, ◌+◌, ◌≤◌, ◌<◌, ◌==◌, Bool, true, false, cond, List, [], ◌∷◌, ◌++◌, length, map, refl, sym, ap, ◌∙◌, subst, arith, length-append}
use Rattle.std.specs.Prelude.{Contains, None}
use Rattle.std.specs.List.{range_with_len, take-map}
use Rattle.std.proofs.lemmas.Bool.{eqb-true}
use Rattle.std.proofs.lemmas.Bool.Decides.{eqb_tells}
use Rattle.std.proofs.lemmas.List.{map-append, length-map, length-drop}
use Rattle.std.proofs.lemmas.List.Elements.{All-push, All-head, All-drop, Contains-append_cases, Contains-append_left, Contains-append_right}
use Rattle.cairo_model.specs.Pie.Records.{PieRecord}
use Rattle.cairo_model.specs.Pie.Shapes.{shape_of}
use Rattle.batch_plan.specs.Cuts.{FitOneBatch, IsPieShape}
use Rattle.desk_core.specs.Desks.{PlainDesk, PlainJob, PlainBatch, jobs_of, shapes_of, batched, waiting_jobs, phase_at, set_phase}
use Rattle.desk_core.specs.NextBatch.{longest_cut}
use Rattle.desk_core.specs.SoundDesks.{AreSmall, IsBatchOf, IsSound, KeepsLimits, shapes_in}
use Rattle.desk_core.specs.Next.{with_job, next_batch, after_register}
use Rattle.desk_core.specs.declared.phase.Phase.{Phase}
use Rattle.desk_core.specs.declared.phase.Phase.TheVariants as phase
use Rattle.desk_core.proofs.BatchLemmas.{phase_in, neighbours_more, registered_more, registered_still, count_moved, neighbours_moved, batches_moved, phase_moved, phase_other}
use Rattle.desk_core.proofs.CutLemmas.{cut_is_longest, some_cut}
use Rattle.desk_core.proofs.IsolationLemmas.{shapes_more}
use Rattle.desk_core.proofs.ListFacts.{filter_more, range_suc, sum_one, stretch_more}

-- ---- a job is admitted

abbrev job_in : PlainDesk → ℕ → PieRecord → PlainJob
job_in d client pie = record { client = client; number = length (jobs_of client d.jobs); pie = pie }

abbrev AreNumbered : List PlainJob → Type 0
AreNumbered jobs = map (λ (j : PlainJob). j.number) jobs ≡ range_with_len 0 (length jobs)

numbered_more : (jobs : List PlainJob) (j : PlainJob) → AreNumbered jobs → j.number ≡ length jobs → AreNumbered (jobs ++ j ∷ [])
numbered_more jobs j all is =
    let len : length (jobs ++ j ∷ []) ≡ suc (length jobs) = omega (arith, length-append jobs (j ∷ [])) in
    map-append (λ (x : PlainJob). x.number) jobs (j ∷ [])
    ∙ (ap (λ (ns : List ℕ). ns ++ j.number ∷ []) all
    ∙ (ap (λ (n : ℕ). range_with_len 0 (length jobs) ++ n ∷ []) (is ∙ omega arith)
    ∙ (sym (range_suc 0 (length jobs)) ∙ ap (range_with_len 0) (sym len))))

module _ (d : PlainDesk) (s : IsSound d) (client : ℕ) (pie : PieRecord) (named : client < d.clients) (limits : KeepsLimits (shapes_of client d.jobs ++ shape_of pie ∷ [])) where
  numbered_at : (c : ℕ) (b : Bool) → (client == c) ≡ b → AreNumbered (cond b (jobs_of c d.jobs ++ job_in d client pie ∷ []) (jobs_of c d.jobs))
  numbered_at c true is = numbered_more (jobs_of c d.jobs) (job_in d client pie) (s.numbered c) (ap (λ (k : ℕ). length (jobs_of k d.jobs)) (eqb-true client c is))
  numbered_at c false is = s.numbered c

  limited_at : (c : ℕ) (b : Bool) → (client == c) ≡ b → KeepsLimits (cond b (shapes_of c d.jobs ++ shape_of pie ∷ []) (shapes_of c d.jobs))
  limited_at c true is = subst (λ (k : ℕ). KeepsLimits (shapes_of k d.jobs ++ shape_of pie ∷ [])) (eqb-true client c is) limits
  limited_at c false is = s.limited c

  still_batch : (b : PlainBatch) → IsBatchOf d.jobs b → IsBatchOf (d.jobs ++ job_in d client pie ∷ []) b
  still_batch b h = record {
    some = h.some;
    within = omega (arith, h.within, length-append d.jobs (job_in d client pie ∷ []));
    fits = subst (λ (js : List PlainJob). FitOneBatch (shapes_in js)) (sym (stretch_more b.count b.first d.jobs (job_in d client pie ∷ []) h.within)) h.fits;
    stands = h.stands;
  }

  pub sound_with_job : IsSound (with_job d client pie)
  sound_with_job = record {
    clients = All-push (λ (j : PlainJob). j.client < d.clients) d.jobs (job_in d client pie) s.clients named;
    numbered = λ c. subst AreNumbered (sym (filter_more (λ (j : PlainJob). j.client == c) d.jobs (job_in d client pie))) (numbered_at c (client == c) refl);
    limited = λ c. subst KeepsLimits (sym (shapes_more c d.jobs (job_in d client pie))) (limited_at c (client == c) refl);
    neighbours = s.neighbours;
    inside = omega (arith, s.inside, length-append d.jobs (job_in d client pie ∷ []));
    batches = λ k x lt. still_batch _ (s.batches k x lt);
    registered = s.registered;
  }

-- ---- a batch is sealed

module _ (d : PlainDesk) (s : IsSound d) (small : AreSmall d.jobs) (some_wait : (length (waiting_jobs d) == 0) ≡ false) where
  counted : (js : List PlainJob) → (length js == 0) ≡ false → AreSmall js → 1 ≤ longest_cut (shapes_in js)
  counted [] e all = absurd (cc)
  counted (j ∷ js) e all = some_cut (shape_of j.pie) (shapes_in js) (All-head (λ (j : PlainJob). IsPieShape (shape_of j.pie)) j js all)

  pub some_waiting : 1 ≤ longest_cut (shapes_in (waiting_jobs d))
  some_waiting = counted (waiting_jobs d) some_wait (All-drop (λ (j : PlainJob). IsPieShape (shape_of j.pie)) (batched d) d.jobs small)

  within : batched d + (next_batch d).count ≤ length d.jobs
  within = omega (arith, s.inside, (cut_is_longest (shapes_in (waiting_jobs d))).there, length-map (waiting_jobs d) (λ (j : PlainJob). shape_of j.pie), length-drop (batched d) d.jobs)

  is_batch : IsBatchOf d.jobs (next_batch d)
  is_batch = record {
    some = some_waiting;
    within = within;
    fits = subst FitOneBatch (take-map (λ (j : PlainJob). shape_of j.pie) (next_batch d).count (waiting_jobs d)) (cut_is_longest (shapes_in (waiting_jobs d))).fit;
    stands = λ e. cc;
  }

  pub sound_sealed : IsSound (record d { batches = d.batches ++ next_batch d ∷ [] })
  sound_sealed = record {
    clients = s.clients;
    numbered = s.numbered;
    limited = s.limited;
    neighbours = neighbours_more 0 d.batches (next_batch d) s.neighbours (omega arith);
    inside = omega (arith, within, sum_one (λ (b : PlainBatch). b.count) d.batches (next_batch d));
    batches = All-push (IsBatchOf d.jobs) d.batches (next_batch d) s.batches is_batch;
    registered = λ b. ((λ h. registered_still d.batches (next_batch d) b ((s.registered b).0 h)), (λ e. (s.registered b).1 (registered_more d.batches (next_batch d) b refl e)));
  }

-- ---- a batch stands elsewhere

module _ (d : PlainDesk) (s : IsSound d) (b : ℕ) (p : Phase) (stands : p ≢ phase.NoBatch) (there : phase_at d b ≢ phase.NoBatch) where
  -- the list of registered batches that then fits
  pub sound_moved : (registered : List ℕ) → ((c : ℕ) → Contains registered c ↔ (phase_in (set_phase d.batches b p) c ≡ phase.Registered)) → IsSound (record d { batches = set_phase d.batches b p; registered = registered })
  sound_moved registered are = record {
    clients = s.clients;
    numbered = s.numbered;
    limited = s.limited;
    neighbours = neighbours_moved 0 d.batches b p s.neighbours;
    inside = omega (arith, s.inside, count_moved d.batches b p);
    batches = batches_moved d.jobs d.batches b p stands s.batches;
    registered = are;
  }

  -- no batch becomes or ceases to be registered
  still_registered : p ≢ phase.Registered → phase_at d b ≢ phase.Registered → (c : ℕ) → Contains d.registered c ↔ (phase_in (set_phase d.batches b p) c ≡ phase.Registered)
  still_registered new old c = elim (eqb_tells c b) [
    | inl same ↦ (
      (λ h. absurd (old (subst (λ (k : ℕ). phase_in d.batches k ≡ phase.Registered) same.1 ((s.registered c).0 h)))),
      (λ e. absurd (new (sym (phase_moved d.batches b p there) ∙ subst (λ (k : ℕ). phase_in (set_phase d.batches b p) k ≡ phase.Registered) same.1 e))),
    )
    | inr other ↦ (
      (λ h. phase_other d.batches b c p other.1 ∙ (s.registered c).0 h),
      (λ e. (s.registered c).1 (sym (phase_other d.batches b c p other.1) ∙ e)),
    )
  ]

  pub sound_still : p ≢ phase.Registered → phase_at d b ≢ phase.Registered → IsSound (record d { batches = set_phase d.batches b p })
  sound_still new old = sound_moved d.registered (still_registered new old)

module _ (d : PlainDesk) (s : IsSound d) (b : ℕ) (there : phase_at d b ≢ phase.NoBatch) where
  abbrev now_registered : List PlainBatch
  now_registered = set_phase d.batches b phase.Registered

  one_more : (c : ℕ) → Contains (d.registered ++ b ∷ []) c ↔ (phase_in now_registered c ≡ phase.Registered)
  one_more c = elim (eqb_tells c b) [
    | inl same ↦ (
      (λ h. subst (λ (k : ℕ). phase_in now_registered k ≡ phase.Registered) (sym same.1) (phase_moved d.batches b phase.Registered there)),
      (λ e. Contains-append_right d.registered (b ∷ []) c (0, omega arith, sym same.1)),
    )
    | inr other ↦ (
      (λ h. phase_other d.batches b c phase.Registered other.1 ∙ elim (Contains-append_cases d.registered (b ∷ []) c h) [
        | inl old ↦ (s.registered c).0 old
        | inr new ↦ absurd (other.1 (only c new))
      ]),
      (λ e. Contains-append_left d.registered (b ∷ []) c ((s.registered c).1 (sym (phase_other d.batches b c phase.Registered other.1) ∙ e))),
    )
  ] where
    only : (c : ℕ) → Contains (b ∷ []) c → c ≡ b
    only c (zero, lt, is) = sym is
    only c (suc k, lt, is) = absurd (omega (arith, lt))

  pub sound_registers : IsSound (after_register d b None)
  sound_registers = sound_moved d s b phase.Registered (λ e. cc) there (d.registered ++ b ∷ []) one_more
