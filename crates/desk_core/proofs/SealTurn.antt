-- A sealing is a turn.
use Rattle.std.proofs.Common.{◌≡◌, ℕ, ◌+◌, ◌≤◌, ◌==◌, ◌%◌, ◌^◌, Bool, true, false, cond, List, [], ◌∷◌, ◌++◌, length, map, drop, refl, sym, ap, ◌∙◌, subst, arith}
use Rattle.std.specs.List.{drop-map}
use Rattle.std.specs.Prelude.{All, None, sum_by, Option}
use Rattle.std.proofs.lemmas.Bool.{eqb-true}
use Rattle.std.proofs.lemmas.Bool.Decides.{nat_tests}
use Rattle.std.proofs.lemmas.List.{map-append, length-map}
use Rattle.std.proofs.lemmas.List.Elements.{All-cons, All-drop, All-head, All-nil, All-push, All-tail}
use Rattle.cairo_model.specs.Pie.Shapes.{shape_of}
use Rattle.cairo_model.specs.declared.shape.Shape.{Shape}
use Rattle.batch_plan.specs.Cuts.{IsPieShape}
use Rattle.fact_registry.specs.Registries.{with_facts}
use Rattle.desk_core.specs.DeskRecords.{DeskRecord, plain_batch, plain_job, plain_of}
use Rattle.desk_core.specs.Desks.{PlainBatch, batched, waiting_jobs}
use Rattle.desk_core.specs.GoodDesks.{IsAcceptedJob, IsGoodDesk, KeepsCert}
use Rattle.desk_core.specs.Kept.{IsKept, before_sealed, jobs_batched}
use Rattle.desk_core.specs.Next.{after_event, next_batch, reply_to}
use Rattle.desk_core.specs.NextBatch.{longest_cut}
use Rattle.desk_core.specs.RegisteredFacts.{registry_of}
use Rattle.desk_core.specs.SoundDesks.{shapes_in}
use Rattle.desk_core.specs.Turns.{CertsStay, IsTurn}
use Rattle.desk_core.specs.Journals.{no_pie}
use Rattle.desk_core.specs.Working.Steps.{most_jobs, sealed_batches, sealed_with}
use Rattle.desk_core.specs.declared.batch.Batch.{Batch}
use Rattle.desk_core.specs.declared.entry.Entry.{Entry}
use Rattle.desk_core.specs.declared.event.Event.TheVariants as event
use Rattle.desk_core.specs.declared.job.Job.{Job}
use Rattle.desk_core.specs.declared.phase.Phase.TheVariants as phase
use Rattle.desk_core.specs.declared.reply.Reply.{Reply}
use Rattle.desk_core.specs.declared.reply.Reply.TheVariants as reply
use Rattle.desk_core.specs.declared.usage.Usage.{Usage}
use Rattle.desk_core.proofs.CertLemmas.{certs_same, certs_stay_grown}
use Rattle.desk_core.proofs.Counting.{few_batches}
use Rattle.desk_core.proofs.CutLemmas.{cut_is_longest}
use Rattle.desk_core.proofs.Entries.{registered_same}
use Rattle.desk_core.proofs.FactLemmas.{small_is}
use Rattle.desk_core.proofs.NextSealed.{still_before}
use Rattle.desk_core.proofs.ListFacts.{sum_cons, sum_one}
use Rattle.desk_core.proofs.QuietTurns.{Quiet, quiet, quiet_desk}
use Rattle.desk_core.proofs.RegistryLemmas.{facts_sealed}
use Rattle.desk_core.proofs.SoundLemmas.{some_waiting}
use Rattle.desk_core.proofs.Turns.{all_small, jobs_few}

abbrev pub job_shapes : List Job → List Shape
job_shapes jobs = map (λ j. shape_of j.checked.pie) jobs

sum_plain : (bs : List Batch) → sum_by (λ (b : PlainBatch). b.count) (map plain_batch bs) ≡ sum_by (λ (b : Batch). b.count) bs
sum_plain [] = refl
sum_plain (b ∷ bs) = sum_cons (λ (x : PlainBatch). x.count) (plain_batch b) (map plain_batch bs) ∙ (ap (λ (n : ℕ). b.count + n) (sum_plain bs) ∙ sym (sum_cons (λ (x : Batch). x.count) b bs))

small_shapes : (js : List Job) → All IsAcceptedJob js → All IsPieShape (job_shapes js)
small_shapes [] all = All-nil IsPieShape
small_shapes (j ∷ js) all =
    All-cons IsPieShape (shape_of j.checked.pie) (job_shapes js) (small_is j.checked.pie j.checked.fact j.checked.states (All-head IsAcceptedJob j js all)) (small_shapes js (All-tail IsAcceptedJob j js all))

shapes_plain : (js : List Job) → shapes_in (map plain_job js) ≡ job_shapes js
shapes_plain [] = refl
shapes_plain (j ∷ js) = ap (λ (ss : List Shape). shape_of j.checked.pie ∷ ss) (shapes_plain js)

module _ (d : DeskRecord) (g : IsGoodDesk d) (pass first count : ℕ) (first_is : first ≡ sum_by (λ (b : Batch). b.count) d.batches) (count_is : count ≡ longest_cut (job_shapes (drop first d.jobs))) where
  batched_is : batched (plain_of d) ≡ first
  batched_is = sum_plain d.batches ∙ sym first_is

  waiting_is : waiting_jobs (plain_of d) ≡ map plain_job (drop first d.jobs)
  waiting_is = ap (λ (n : ℕ). drop n (map plain_job d.jobs)) batched_is ∙ drop-map plain_job first d.jobs

  shapes_are : shapes_in (waiting_jobs (plain_of d)) ≡ job_shapes (drop first d.jobs)
  shapes_are = ap shapes_in waiting_is ∙ shapes_plain (drop first d.jobs)

  length_is : length (waiting_jobs (plain_of d)) ≡ length (job_shapes (drop first d.jobs))
  length_is = ap length waiting_is ∙ (length-map (drop first d.jobs) plain_job ∙ sym (length-map (drop first d.jobs) (λ (j : Job). shape_of j.checked.pie)))

  new_batch : Batch
  new_batch = record { first = first; count = count; phase = phase.Sealed; cert = None }

  abbrev reply_where : Bool → Reply
  reply_where none = cond none (reply.NothingWaiting d.closed) (reply.SealedBatch (length d.batches))

  sealed_at : (b : Bool) → (length (job_shapes (drop first d.jobs)) == 0) ≡ b
      → ((count == 0) ≡ b) × Quiet d (quiet_desk d pass event.Seal (reply_where b) (sealed_batches d.batches first count) d.registry d.closed) pass event.Seal (reply_where b)
  unfolding new_batch reply_to after_event
  sealed_at true is =
      let none : length (job_shapes (drop first d.jobs)) ≡ 0 = eqb-true (length (job_shapes (drop first d.jobs))) 0 is in
      let empty : count ≡ 0 = omega (arith, count_is, none, (cut_is_longest (job_shapes (drop first d.jobs))).there) in
      let same : sealed_batches d.batches first count ≡ d.batches = rw empty in
      let x : Entry = record { pass = pass; event = event.Seal; reply = reply.NothingWaiting d.closed } in
      let test : (length (waiting_jobs (plain_of d)) == 0) ≡ true = ap (λ (n : ℕ). n == 0) length_is ∙ is in
      let stays : plain_of (quiet_desk d pass event.Seal (reply.NothingWaiting d.closed) (sealed_batches d.batches first count) d.registry d.closed) ≡ plain_of d =
      λ i. record { clients = d.clients; jobs = map plain_job d.jobs; batches = map plain_batch (same i); registered = registered_same d.entries x refl i; closed = d.closed } in (
        ap (λ (n : ℕ). n == 0) empty,
        quiet d g pass event.Seal (reply.NothingWaiting d.closed) (sealed_batches d.batches first count) d.registry d.closed refl tt
            (ap (λ (b : Bool). cond b (reply.NothingWaiting d.closed) (reply.SealedBatch (length (map plain_batch d.batches)))) (sym test))
            (stays ∙ ap (λ (b : Bool). cond b (plain_of d) (record (plain_of d) { batches = map plain_batch d.batches ++ next_batch (plain_of d) ∷ [] })) (sym test))
            (subst (λ (bs : List Batch). CertsStay d.batches bs None) (sym same) (certs_same d.batches None)) (subst (All (KeepsCert d.jobs)) (sym same) g.certs) (g.registry ∙ ap registry_of (sym stays)),
      )
  sealed_at false is =
      let test : (length (waiting_jobs (plain_of d)) == 0) ≡ false = ap (λ (n : ℕ). n == 0) length_is ∙ is in
      let some : 1 ≤ longest_cut (shapes_in (waiting_jobs (plain_of d))) = some_waiting (plain_of d) g.sound (all_small d.jobs g.accepted) test in
      let not_empty : (count == 0) ≡ false = let n : count ≡ longest_cut (shapes_in (waiting_jobs (plain_of d))) = count_is ∙ ap longest_cut (sym shapes_are) in grind (arith, nat_tests) in
      let grown : sealed_batches d.batches first count ≡ d.batches ++ new_batch ∷ [] = rw not_empty in
      let x : Entry = record { pass = pass; event = event.Seal; reply = reply.SealedBatch (length d.batches) } in
      let plain_new : plain_batch new_batch ≡ next_batch (plain_of d) = λ i. record { first = sym batched_is i; count = (count_is ∙ ap longest_cut (sym shapes_are)) i; phase = phase.Sealed } in
      let batches : map plain_batch (sealed_batches d.batches first count) ≡ map plain_batch d.batches ++ next_batch (plain_of d) ∷ [] =
      ap (map plain_batch) grown ∙ (map-append plain_batch d.batches (new_batch ∷ []) ∙ ap (λ (b : PlainBatch). map plain_batch d.batches ++ b ∷ []) plain_new) in
      let grows : plain_of (quiet_desk d pass event.Seal (reply.SealedBatch (length d.batches)) (sealed_batches d.batches first count) d.registry d.closed) ≡ record (plain_of d) { batches = map plain_batch d.batches ++ next_batch (plain_of d) ∷ [] } =
      λ i. record { clients = d.clients; jobs = map plain_job d.jobs; batches = batches i; registered = registered_same d.entries x refl i; closed = d.closed } in (
        not_empty,
        quiet d g pass event.Seal (reply.SealedBatch (length d.batches)) (sealed_batches d.batches first count) d.registry d.closed refl tt
            (ap reply.SealedBatch (sym (length-map d.batches plain_batch)) ∙ ap (λ (b : Bool). cond b (reply.NothingWaiting d.closed) (reply.SealedBatch (length (map plain_batch d.batches)))) (sym test))
            (grows ∙ ap (λ (b : Bool). cond b (plain_of d) (record (plain_of d) { batches = map plain_batch d.batches ++ next_batch (plain_of d) ∷ [] })) (sym test))
            (subst (λ (bs : List Batch). CertsStay d.batches bs None) (sym grown) (certs_stay_grown d.batches new_batch None))
            (subst (All (KeepsCert d.jobs)) (sym grown) (All-push (KeepsCert d.jobs) d.batches new_batch g.certs (record { has = λ at. absurd (cc); has_none = λ ne. refl })))
            (g.registry ∙ (ap (with_facts []) (sym (facts_sealed (plain_of d) g.sound (next_batch (plain_of d)))) ∙ ap registry_of (sym grows))),
      )

-- what is kept beside the desk
abbrev SealedBatches : List Batch → ℕ → ℕ → Bool → List Batch
SealedBatches batches first count none = cond none batches (batches ++ record { first = first; count = count; phase = phase.Sealed; cert = None } ∷ [])

batched_then : (batches : List Batch) (first count : ℕ) (none : Bool) → (count == 0) ≡ none → first ≡ jobs_batched batches → first + count ≡ jobs_batched (SealedBatches batches first count none)
batched_then batches first count true is at = omega (arith, at, eqb-true count 0 is)
batched_then batches first count false is at = omega (arith, at, sum_one (λ (b : Batch). b.count) batches (record { first = first; count = count; phase = phase.Sealed; cert = None }))

next_then : (batches : List Batch) (first count : ℕ) (none : Bool) → before_sealed batches ≡ before_sealed (SealedBatches batches first count none)
next_then batches first count true = refl
next_then batches first count false = still_before batches (record { first = first; count = count; phase = phase.Sealed; cert = None }) refl

-- by what the calls left
pub record Sealed (d new : DeskRecord) (pass : ℕ) (r : Reply) (usages : List Usage) (places : List (Option ℕ)) (batched next : ℕ) : Type 0 where
  pub kept : IsKept new usages places batched next
  pub turn : IsTurn d new pass event.Seal no_pie r

pub sealed_leaves : (d : DeskRecord) (pass first count : ℕ) (shapes : List Shape) (r : Reply) (batches : List Batch) (entries : List Entry) (usages : List Usage) (places : List (Option ℕ)) (next : ℕ) → IsKept d usages places first next
    → shapes ≡ job_shapes (drop first d.jobs) → count ≡ longest_cut shapes → r ≡ sealed_with count d.closed (length d.batches)
    → batches ≡ sealed_batches d.batches first count → entries ≡ d.entries ++ record { pass = pass; event = event.Seal; reply = r } ∷ []
    → Sealed d (record d { batches = batches; entries = entries; turns = (d.turns + 1) % 2 ^ 64 }) pass r usages places (first + count) next
sealed_leaves d pass first count shapes r batches entries usages places next k shapes_are count_is r_is batches_are entries_are =
    let cut_is : count ≡ longest_cut (job_shapes (drop first d.jobs)) = count_is ∙ ap longest_cut shapes_are in
    let none : Bool = length (job_shapes (drop first d.jobs)) == 0 in
    let x = sealed_at d k.good pass first count k.is_batched cut_is none refl in
    let reply_is : r ≡ cond none (reply.NothingWaiting d.closed) (reply.SealedBatch (length d.batches)) = r_is ∙ ap (λ (b : Bool). cond b (reply.NothingWaiting d.closed) (reply.SealedBatch (length d.batches))) x.0 in
    let es : d.entries ++ record { pass = pass; event = event.Seal; reply = cond none (reply.NothingWaiting d.closed) (reply.SealedBatch (length d.batches)) } ∷ [] ≡ entries =
    sym (entries_are ∙ ap (λ (y : Reply). d.entries ++ record { pass = pass; event = event.Seal; reply = y } ∷ []) reply_is) in
    let same : quiet_desk d pass event.Seal (cond none (reply.NothingWaiting d.closed) (reply.SealedBatch (length d.batches))) (sealed_batches d.batches first count) d.registry d.closed
    ≡ record d { batches = batches; entries = entries; turns = (d.turns + 1) % 2 ^ 64 } =
    λ i. record d { batches = sym batches_are i; entries = es i; turns = (d.turns + 1) % 2 ^ 64 } in
    let q : Quiet d (record d { batches = batches; entries = entries; turns = (d.turns + 1) % 2 ^ 64 }) pass event.Seal r =
    subst (λ (y : Reply). Quiet d (record d { batches = batches; entries = entries; turns = (d.turns + 1) % 2 ^ 64 }) pass event.Seal y) (sym reply_is)
    (subst (λ (n : DeskRecord). Quiet d n pass event.Seal (cond none (reply.NothingWaiting d.closed) (reply.SealedBatch (length d.batches)))) same x.1) in
    record {
      kept = record {
        good = q.good;
        are_usages = k.are_usages;
        are_places = k.are_places;
        is_batched = batched_then d.batches first count (count == 0) refl k.is_batched ∙ ap jobs_batched (sym batches_are);
        is_next = k.is_next ∙ (next_then d.batches first count (count == 0) ∙ ap before_sealed (sym batches_are));
      };
      turn = q.turn;
    }

-- ---- what the code needs of its numbers

pub batches_few : (d : DeskRecord) → IsGoodDesk d → length d.batches ≤ most_jobs
batches_few d g = omega (arith, few_batches (plain_of d) g.sound, jobs_few d g, length-map d.jobs plain_job, length-map d.batches plain_batch)

pub batched_inside : (d : DeskRecord) → IsGoodDesk d → jobs_batched d.batches ≤ length d.jobs
batched_inside d g = omega (arith, g.sound.inside, sum_plain d.batches, length-map d.jobs plain_job)

pub waiting_small : (d : DeskRecord) → IsGoodDesk d → (first : ℕ) → All IsPieShape (job_shapes (drop first d.jobs))
waiting_small d g first = small_shapes (drop first d.jobs) (All-drop IsAcceptedJob first d.jobs g.accepted)
