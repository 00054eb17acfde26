-- The taking of a batch is a turn, and what it hands out is within the limits of a batch.
use Rattle.std.proofs.Common.{◌≡◌, ◌≢◌, ℕ, zero, suc, ◌+◌, ◌≤◌, ◌<◌, ◌%◌, ◌^◌, List, [], ◌∷◌, ◌++◌, length, map, sum, take, drop, get_or, refl, sym, ap, ◌∙◌, subst, arith}
use Rattle.std.specs.List.{drop-map, take-map}
use Rattle.std.specs.Prelude.{All, Option, Some, None, slice_get}
use Rattle.std.specs.Option.{option_map_or}
use Rattle.std.proofs.lemmas.Option.{slice_get-get_or}
use Rattle.std.proofs.lemmas.List.{length-drop, length-map, length-take-le}
use Rattle.std.proofs.lemmas.List.Elements.{All-cons, All-head, All-tail}
use Rattle.cairo_model.specs.Pie.Acceptance.{CheckedRecord}
use Rattle.cairo_model.specs.Pie.Shapes.{shape_of}
use Rattle.cairo_model.specs.declared.shape.Shape.{Shape}
use Rattle.boot_program.specs.Batch.Parcels.{ParcelRecord, WithinBatch, cells_of_all, steps_of_all}
use Rattle.batch_plan.specs.Cuts.{FitOneBatch, cells_together, steps_together}
use Rattle.batch_plan.proofs.Sums.{sum_more}
use Rattle.fact_registry.specs.Registries.{with_facts}
use Rattle.desk_core.specs.DeskRecords.{DeskRecord, plain_batch, plain_job, plain_of, tasks_in}
use Rattle.desk_core.specs.Desks.{PlainBatch, first_sealed, jobs_in, set_phase, phase_at}
use Rattle.desk_core.specs.GoodDesks.{IsGoodDesk, KeepsCert}
use Rattle.desk_core.specs.Journals.{no_pie}
use Rattle.desk_core.specs.Kept.{IsKept, before_sealed, jobs_batched}
use Rattle.desk_core.specs.Next.{after_event, reply_to, take_reply, after_take}
use Rattle.desk_core.specs.RegisteredFacts.{registry_of}
use Rattle.desk_core.specs.SoundDesks.{IsBatchOf, shapes_in}
use Rattle.desk_core.specs.Turns.{IsTurn, handed_out}
use Rattle.desk_core.specs.Working.Steps.{CanGoOut, batches_moved, parcel_at, sealed_number, taken_by}
use Rattle.desk_core.specs.declared.batch.Batch.{Batch}
use Rattle.desk_core.specs.declared.entry.Entry.{Entry}
use Rattle.desk_core.specs.declared.event.Event.TheVariants as event
use Rattle.desk_core.specs.declared.job.Job.{Job}
use Rattle.desk_core.specs.declared.phase.Phase.{Phase}
use Rattle.desk_core.specs.declared.phase.Phase.TheVariants as phase
use Rattle.desk_core.specs.declared.reply.Reply.{Reply}
use Rattle.desk_core.specs.declared.reply.Reply.TheVariants as reply
use Rattle.desk_core.specs.declared.usage.Usage.{Usage}
use Rattle.desk_core.proofs.BatchLemmas.{phase_in}
use Rattle.desk_core.proofs.CertLemmas.{certs_same, certs_stay_moved}
use Rattle.desk_core.proofs.Entries.{registered_same}
use Rattle.desk_core.proofs.ListFacts.{sum_cons}
use Rattle.desk_core.proofs.NextSealed.{first_is, moved_step}
use Rattle.desk_core.proofs.QuietTurns.{Quiet, quiet, quiet_desk}
use Rattle.desk_core.proofs.RegistryLemmas.{facts_moved}
use Rattle.desk_core.proofs.SoundSteps.{first_is_sealed}

-- ---- the batch gets another phase

pub moved_plain : (bs : List Batch) (b : ℕ) (p : Phase) → map plain_batch (batches_moved bs (Some b) p) ≡ set_phase (map plain_batch bs) b p
moved_plain [] b p = refl
moved_plain (x ∷ bs) zero p = refl
moved_plain (x ∷ bs) (suc b) p = ap (map plain_batch) (moved_step x bs b p) ∙ ap (λ (xs : List PlainBatch). plain_batch x ∷ xs) (moved_plain bs b p)

pub certs_moved : (jobs : List Job) (bs : List Batch) (b : ℕ) (p : Phase) → p ≢ phase.Registered → phase_in (map plain_batch bs) b ≢ phase.Registered → All (KeepsCert jobs) bs → All (KeepsCert jobs) (batches_moved bs (Some b) p)
certs_moved jobs [] b p new old all = all
certs_moved jobs (x ∷ bs) zero p new old all =
    let h = All-head (KeepsCert jobs) x bs all in
    All-cons (KeepsCert jobs) (record x { phase = p }) bs (record { has = λ at. absurd (new at); has_none = λ ne. h.has_none old }) (All-tail (KeepsCert jobs) x bs all)
certs_moved jobs (x ∷ bs) (suc b) p new old all =
    subst (All (KeepsCert jobs)) (sym (moved_step x bs b p))
    (All-cons (KeepsCert jobs) x (batches_moved bs (Some b) p) (All-head (KeepsCert jobs) x bs all) (certs_moved jobs bs b p new old (All-tail (KeepsCert jobs) x bs all)))

module _ (d : DeskRecord) (g : IsGoodDesk d) (pass : ℕ) where
  taken_at : (o : Option ℕ) → first_sealed (plain_of d) ≡ o → Quiet d (quiet_desk d pass event.Take (taken_by o) (batches_moved d.batches o (phase.Taken pass)) d.registry d.closed) pass event.Take (taken_by o)
  unfolding reply_to after_event
  taken_at None is =
      let x : Entry = record { pass = pass; event = event.Take; reply = reply.NothingSealed } in
      let stays : plain_of (quiet_desk d pass event.Take reply.NothingSealed d.batches d.registry d.closed) ≡ plain_of d =
      λ i. record { clients = d.clients; jobs = map plain_job d.jobs; batches = map plain_batch d.batches; registered = registered_same d.entries x refl i; closed = d.closed } in
      quiet d g pass event.Take reply.NothingSealed d.batches d.registry d.closed refl tt (ap take_reply (sym is)) (stays ∙ ap (after_take (plain_of d) pass) (sym is)) (certs_same d.batches None) g.certs (g.registry ∙ ap registry_of (sym stays))
  taken_at (Some b) is =
      let x : Entry = record { pass = pass; event = event.Take; reply = reply.TakenBatch b } in
      let at : phase_at (plain_of d) b ≡ phase.Sealed = first_is_sealed (plain_of d) b is in
      let goes : plain_of (quiet_desk d pass event.Take (reply.TakenBatch b) (batches_moved d.batches (Some b) (phase.Taken pass)) d.registry d.closed) ≡ record (plain_of d) { batches = set_phase (map plain_batch d.batches) b (phase.Taken pass) } =
      λ i. record { clients = d.clients; jobs = map plain_job d.jobs; batches = moved_plain d.batches b (phase.Taken pass) i; registered = registered_same d.entries x refl i; closed = d.closed } in
      quiet d g pass event.Take (reply.TakenBatch b) (batches_moved d.batches (Some b) (phase.Taken pass)) d.registry d.closed refl tt (ap take_reply (sym is)) (goes ∙ ap (after_take (plain_of d) pass) (sym is))
      (certs_stay_moved d.batches b (phase.Taken pass) None) (certs_moved d.jobs d.batches b (phase.Taken pass) (λ e. cc) (λ e. cc) g.certs)
      (g.registry ∙ (ap (with_facts []) (sym (facts_moved (plain_of d) b (phase.Taken pass))) ∙ ap registry_of (sym goes)))

count_same : (bs : List Batch) (b : ℕ) (p : Phase) → jobs_batched bs ≡ jobs_batched (batches_moved bs (Some b) p)
count_same [] b p = refl
count_same (x ∷ bs) zero p = sum_cons (λ (y : Batch). y.count) x bs ∙ sym (sum_cons (λ (y : Batch). y.count) (record x { phase = p }) bs)
count_same (x ∷ bs) (suc b) p =
    sum_cons (λ (y : Batch). y.count) x bs ∙ (ap (λ (n : ℕ). x.count + n) (count_same bs b p)
    ∙ (sym (sum_cons (λ (y : Batch). y.count) x (batches_moved bs (Some b) p)) ∙ ap jobs_batched (sym (moved_step x bs b p))))

pub batched_same : (bs : List Batch) (o : Option ℕ) (p : Phase) → jobs_batched bs ≡ jobs_batched (batches_moved bs o p)
batched_same bs None p = refl
batched_same bs (Some b) p = count_same bs b p

pub batches_still_few : (bs : List Batch) (o : Option ℕ) (p : Phase) → length (batches_moved bs o p) ≡ length bs
batches_still_few bs None p = refl
batches_still_few [] (Some b) p = refl
batches_still_few (x ∷ bs) (Some zero) p = refl
batches_still_few (x ∷ bs) (Some (suc b)) p = ap length (moved_step x bs b p) ∙ ap suc (batches_still_few bs (Some b) p)

-- by what the calls left
pub record Taken (d new : DeskRecord) (pass : ℕ) (r : Reply) (usages : List Usage) (places : List (Option ℕ)) (batched next : ℕ) : Type 0 where
  pub kept : IsKept new usages places batched next
  pub turn : IsTurn d new pass event.Take no_pie r

pub taken_leaves : (d : DeskRecord) (pass : ℕ) (o : Option ℕ) (r : Reply) (batches : List Batch) (entries : List Entry) (usages : List Usage) (places : List (Option ℕ)) (batched next next' : ℕ) → IsKept d usages places batched next
    → o ≡ sealed_number next (length d.batches) → r ≡ taken_by o → batches ≡ batches_moved d.batches o (phase.Taken pass) → next' ≡ before_sealed batches
    → entries ≡ d.entries ++ record { pass = pass; event = event.Take; reply = r } ∷ []
    → Taken d (record d { batches = batches; entries = entries; turns = (d.turns + 1) % 2 ^ 64 }) pass r usages places batched next'
taken_leaves d pass o r batches entries usages places batched next next' k o_is r_is batches_are next_is entries_are =
    let first : first_sealed (plain_of d) ≡ o = first_is d ∙ (ap (λ (n : ℕ). sealed_number n (length d.batches)) (sym k.is_next) ∙ sym o_is) in
    let q = taken_at d k.good pass o first in
    let es : d.entries ++ record { pass = pass; event = event.Take; reply = taken_by o } ∷ [] ≡ entries =
    sym (entries_are ∙ ap (λ (x : Reply). d.entries ++ record { pass = pass; event = event.Take; reply = x } ∷ []) r_is) in
    let same : quiet_desk d pass event.Take (taken_by o) (batches_moved d.batches o (phase.Taken pass)) d.registry d.closed ≡ record d { batches = batches; entries = entries; turns = (d.turns + 1) % 2 ^ 64 } =
    λ i. record d { batches = sym batches_are i; entries = es i; turns = (d.turns + 1) % 2 ^ 64 } in
    let x : Quiet d (record d { batches = batches; entries = entries; turns = (d.turns + 1) % 2 ^ 64 }) pass event.Take r =
    subst (λ (y : Reply). Quiet d (record d { batches = batches; entries = entries; turns = (d.turns + 1) % 2 ^ 64 }) pass event.Take y) (sym r_is)
    (subst (λ (n : DeskRecord). Quiet d n pass event.Take (taken_by o)) same q) in
    record {
      kept = record {
        good = x.good;
        are_usages = k.are_usages;
        are_places = k.are_places;
        is_batched = k.is_batched ∙ (batched_same d.batches o (phase.Taken pass) ∙ ap jobs_batched (sym batches_are));
        is_next = next_is;
      };
      turn = x.turn;
    }

-- ---- what is handed out

shapes_of_tasks : (js : List Job) → shapes_in (map plain_job js) ≡ map (λ (j : Job). shape_of j.checked.pie) js
shapes_of_tasks [] = refl
shapes_of_tasks (j ∷ js) = ap (λ (ss : List Shape). shape_of j.checked.pie ∷ ss) (shapes_of_tasks js)

steps_are : (js : List Job) → steps_together (map (λ (j : Job). shape_of j.checked.pie) js) ≡ steps_of_all (map (λ (j : Job). j.checked) js)
steps_are [] = refl
steps_are (j ∷ js) =
    sum_more (λ (s : Shape). s.steps) (shape_of j.checked.pie) (map (λ (x : Job). shape_of x.checked.pie) js)
    ∙ (ap (λ (n : ℕ). j.checked.pie.steps + n) (steps_are js) ∙ sym (sum_more (λ (t : CheckedRecord). t.pie.steps) j.checked (map (λ (x : Job). x.checked) js)))

cells_are : (js : List Job) → cells_together (map (λ (j : Job). shape_of j.checked.pie) js) ≡ cells_of_all (map (λ (j : Job). j.checked) js)
cells_are [] = refl
cells_are (j ∷ js) =
    sum_more (λ (s : Shape). s.size) (shape_of j.checked.pie) (map (λ (x : Job). shape_of x.checked.pie) js)
    ∙ (ap (λ (n : ℕ). sum j.checked.pie.sizes + n) (cells_are js) ∙ sym (sum_more (λ (t : CheckedRecord). sum t.pie.sizes) j.checked (map (λ (x : Job). x.checked) js)))

within_batch : (js : List Job) → 1 ≤ length js → FitOneBatch (map (λ (j : Job). shape_of j.checked.pie) js) → WithinBatch (map (λ (j : Job). j.checked) js)
within_batch js some fits =
    let tasks = length-map js (λ (j : Job). j.checked) in
    record {
      some = omega (arith, some, tasks);
      few = omega (arith, fits.few, tasks, length-map js (λ (j : Job). shape_of j.checked.pie));
      few_steps = omega (arith, fits.few_steps, steps_are js);
      few_cells = omega (arith, fits.few_cells, cells_are js);
    }

pub stretched : (jobs : List Job) (b : Batch) → jobs_in (map plain_job jobs) (plain_batch b) ≡ map plain_job (take b.count (drop b.first jobs))
stretched jobs b = ap (take b.count) (drop-map plain_job b.first jobs) ∙ take-map plain_job b.count (drop b.first jobs)

can_go_out : (jobs : List Job) (b : Batch) → IsBatchOf (map plain_job jobs) (plain_batch b) → CanGoOut jobs b
can_go_out jobs b is =
    let all : b.first + b.count ≤ length jobs = omega (arith, is.within, length-map jobs plain_job) in
    let part : List Job = take b.count (drop b.first jobs) in
    let count : length part ≡ b.count = length-take-le b.count (drop b.first jobs) (omega (arith, all, length-drop b.first jobs)) in
    record {
      inside = all;
      fits = within_batch part (omega (arith, count, is.some)) (subst FitOneBatch (ap shapes_in (stretched jobs b) ∙ shapes_of_tasks part) is.fits);
    }

in_order : (jobs : List Job) (bs : List Batch) → All (IsBatchOf (map plain_job jobs)) (map plain_batch bs) → (b : ℕ) (x : Batch) → slice_get bs b ≡ Some x → CanGoOut jobs x
in_order jobs [] all b x e = absurd (cc)
in_order jobs (y ∷ bs) all zero x e =
    let same : y ≡ x = cc in
    subst (CanGoOut jobs) same (can_go_out jobs y (All-head (IsBatchOf (map plain_job jobs)) (plain_batch y) (map plain_batch bs) all))
in_order jobs (y ∷ bs) all (suc b) x e = in_order jobs bs (All-tail (IsBatchOf (map plain_job jobs)) (plain_batch y) (map plain_batch bs) all) b x e

pub goes_out : (d : DeskRecord) → IsGoodDesk d → (seen : List Batch) (jobs : List Job) → seen ≡ d.batches → jobs ≡ d.jobs → (b : ℕ) (x : Batch) → slice_get seen b ≡ Some x → CanGoOut jobs x
goes_out d g seen jobs seen_is jobs_is b x e =
    subst (λ (js : List Job). CanGoOut js x) (sym jobs_is) (in_order d.jobs d.batches g.sound.batches b x (subst (λ (bs : List Batch). slice_get bs b ≡ Some x) seen_is e))

pub handed : (d : DeskRecord) (usages : List Usage) (places : List (Option ℕ)) (batched next : ℕ) → IsKept d usages places batched next → (o : Option ℕ) (r : Reply) → r ≡ taken_by o → parcel_at d.jobs d.batches o ≡ handed_out d r
handed d usages places batched next k o r is = go o ∙ ap (handed_out d) (sym is) where
  go : (x : Option ℕ) → parcel_at d.jobs d.batches x ≡ handed_out d (taken_by x)
  go None = refl
  go (Some b) = refl

-- ---- the batch of a number

pub at_index : (bs : List Batch) (b : ℕ) (x : Batch) → b < length bs → x ≡ get_or bs b x → slice_get bs b ≡ Some x
at_index bs b x lt is = slice_get-get_or bs b x lt ∙ ap Some (sym is)

pub parcel_found : (jobs : List Job) (bs : List Batch) (o : Option ℕ) (b : ℕ) (x : Batch) (tasks : List CheckedRecord) → o ≡ Some b → slice_get bs b ≡ Some x → tasks ≡ tasks_in jobs x
    → ◌≡◌ {A = Option ParcelRecord} (Some (record { batch = b; tasks = tasks })) (parcel_at jobs bs o)
parcel_found jobs bs o b x tasks found there are =
    let same : tasks ≡ option_map_or (tasks_in jobs) (slice_get bs b) [] = are ∙ ap (λ (y : Option Batch). option_map_or (tasks_in jobs) y []) (sym there) in
    ap (λ (ts : List CheckedRecord). Some (record { batch = b; tasks = ts })) same ∙ ap (parcel_at jobs bs) (sym found)
