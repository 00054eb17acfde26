-- A registration is a turn.
use Rattle.std.proofs.Common.{◌≡◌, ◌≢◌, ℕ, zero, suc, ◌+◌, ◌%◌, ◌^◌, Bool, true, false, cond, not, List, [], ◌∷◌, ◌++◌, map, take, drop, refl, sym, ap, ◌∙◌, subst}
use Rattle.std.specs.Prelude.{All, Option, Some, None, option_map, slice_get, slice_set}
use Rattle.std.specs.Option.{option_map_or}
use Rattle.std.proofs.lemmas.Option.{slice_get-map}
use Rattle.std.proofs.lemmas.List.Elements.{All-cons, All-drop, All-head, All-tail, All-take, filter_map-append}
use Rattle.cairo_model.specs.Certificate.Records.{CertRecord}
use Rattle.cairo_model.specs.Pie.Acceptance.{CheckedRecord, FactRecord}
use Rattle.cairo_model.specs.Pie.Facts.{fact_of}
use Rattle.boot_program.specs.Batch.Acceptance.{AcceptsBatch}
use Rattle.boot_program.specs.Batch.Parcels.{CertifiedRecord, ParcelRecord}
use Rattle.boot_program.specs.Batch.Standing.{AllStandIn}
use Rattle.fact_registry.specs.Registries.{with_facts}
use Rattle.desk_core.specs.DeskRecords.{DeskRecord, plain_batch, plain_job, plain_of, registers_at, tasks_at, tasks_in}
use Rattle.desk_core.specs.Desks.{PlainBatch, PlainJob, is_sealed, is_taken_by, jobs_at, phase_at, set_phase, shown_facts}
use Rattle.desk_core.specs.Quotas.{is_admitted}
use Rattle.desk_core.specs.Journals.{no_pie}
use Rattle.desk_core.specs.Turns.{IsTurn, cert_at}
use Rattle.desk_core.specs.GoodDesks.{IsAcceptedJob, IsGoodDesk, KeepsCert}
use Rattle.desk_core.specs.Kept.{IsKept, before_sealed, jobs_batched}
use Rattle.desk_core.specs.Next.{after_event, after_register, parcel_reply, reply_to}
use Rattle.desk_core.specs.RegisteredFacts.{registry_of}
use Rattle.desk_core.specs.Registrations.{IsLeastDifference, IsRegisterEnd, IsRegistering, KeepsJust, pies_in}
use Rattle.desk_core.specs.Working.Registering.{IsFound, certified_at, checked_in, facts_kept, is_welcome, jobs_numbered, jobs_within, refused_end, registering_reply}
use Rattle.desk_core.specs.Working.Steps.{held_number, phase_of_batch}
use Rattle.desk_core.specs.declared.batch.Batch.{Batch}
use Rattle.desk_core.specs.declared.entry.Entry.{Entry}
use Rattle.desk_core.specs.declared.event.Event.{Event}
use Rattle.desk_core.specs.declared.event.Event.TheVariants as event
use Rattle.desk_core.specs.declared.job.Job.{Job}
use Rattle.desk_core.specs.declared.phase.Phase.{Phase}
use Rattle.desk_core.specs.declared.phase.Phase.TheVariants as phase
use Rattle.desk_core.specs.declared.register_end.RegisterEnd.{RegisterEnd}
use Rattle.desk_core.specs.declared.reply.Reply.{Reply}
use Rattle.desk_core.specs.declared.reply.Reply.TheVariants as reply
use Rattle.desk_core.specs.declared.usage.Usage.{Usage}
use Rattle.desk_core.proofs.BackTurn.{phase_same, taken_isnt}
use Rattle.desk_core.proofs.CertLemmas.{certs_same}
use Rattle.desk_core.proofs.Entries.{registered_same}
use Rattle.desk_core.proofs.FactLemmas.{fact_is}
use Rattle.desk_core.proofs.ListFacts.{sum_cons}
use Rattle.desk_core.proofs.PlainTurns.{Left}
use Rattle.desk_core.proofs.QuietTurns.{Quiet, quiet, quiet_desk}
use Rattle.desk_core.proofs.RegistryLemmas.{facts_registered, with_facts-append}
use Rattle.desk_core.proofs.TakeTurn.{stretched}

-- ---- the batch gets its certificate

abbrev with_cert : CertRecord → Batch → Batch
with_cert cert x = record x { phase = phase.Registered; cert = Some cert }

certified_step : (x : Batch) (bs : List Batch) (b : ℕ) (cert : CertRecord) → certified_at (x ∷ bs) (suc b) cert ≡ x ∷ certified_at bs b cert
certified_step x bs b cert = go (slice_get bs b) where
  go : (o : Option Batch) → option_map_or (λ (y : Batch). slice_set (x ∷ bs) (suc b) (with_cert cert y)) o (x ∷ bs) ≡ x ∷ option_map_or (λ (y : Batch). slice_set bs b (with_cert cert y)) o bs
  go None = refl
  go (Some y) = refl

certified_plain : (bs : List Batch) (b : ℕ) (cert : CertRecord) → map plain_batch (certified_at bs b cert) ≡ set_phase (map plain_batch bs) b phase.Registered
certified_plain [] b cert = refl
certified_plain (x ∷ bs) zero cert = refl
certified_plain (x ∷ bs) (suc b) cert = ap (map plain_batch) (certified_step x bs b cert) ∙ ap (λ (xs : List PlainBatch). plain_batch x ∷ xs) (certified_plain bs b cert)

count_certified : (bs : List Batch) (b : ℕ) (cert : CertRecord) → jobs_batched bs ≡ jobs_batched (certified_at bs b cert)
count_certified [] b cert = refl
count_certified (x ∷ bs) zero cert = sum_cons (λ (y : Batch). y.count) x bs ∙ sym (sum_cons (λ (y : Batch). y.count) (with_cert cert x) bs)
count_certified (x ∷ bs) (suc b) cert =
    sum_cons (λ (y : Batch). y.count) x bs ∙ (ap (λ (n : ℕ). x.count + n) (count_certified bs b cert)
    ∙ (sym (sum_cons (λ (y : Batch). y.count) x (certified_at bs b cert)) ∙ ap jobs_batched (sym (certified_step x bs b cert))))

-- a batch that wasn't sealed isn't the first sealed one
next_certified : (bs : List Batch) (b : ℕ) (cert : CertRecord) → is_sealed (phase_of_batch bs b) ≡ false → before_sealed bs ≡ before_sealed (certified_at bs b cert)
next_certified [] b cert isnt = refl
next_certified (x ∷ bs) zero cert isnt = ap (λ (t : Bool). cond (not t) (1 + before_sealed bs) 0) isnt
next_certified (x ∷ bs) (suc b) cert isnt =
    ap (λ (n : ℕ). cond (not (is_sealed x.phase)) (1 + n) 0) (next_certified bs b cert isnt) ∙ ap before_sealed (sym (certified_step x bs b cert))

certs_certified : (jobs : List Job) (bs : List Batch) (b : ℕ) (cert : CertRecord) → ((x : Batch) → slice_get bs b ≡ Some x → AcceptsBatch cert (tasks_in jobs x) × AllStandIn cert (tasks_in jobs x))
    → All (KeepsCert jobs) bs → All (KeepsCert jobs) (certified_at bs b cert)
certs_certified jobs [] b cert is all = all
certs_certified jobs (x ∷ bs) zero cert is all =
    All-cons (KeepsCert jobs) (with_cert cert x) bs
    (record {
      has = λ at. record { cert = cert; is = refl; accepted = (is x refl).0; stand = (is x refl).1 };
      has_none = λ ne. absurd (ne refl);
    }) (All-tail (KeepsCert jobs) x bs all)
certs_certified jobs (x ∷ bs) (suc b) cert is all =
    subst (All (KeepsCert jobs)) (sym (certified_step x bs b cert))
    (All-cons (KeepsCert jobs) x (certified_at bs b cert) (All-head (KeepsCert jobs) x bs all) (certs_certified jobs bs b cert is (All-tail (KeepsCert jobs) x bs all)))

cert_there : (bs : List Batch) (b : ℕ) (cert : CertRecord) → phase_of_batch bs b ≢ phase.NoBatch → cert_at (certified_at bs b cert) b ≡ Some (Some cert)
cert_there [] b cert stands = absurd (stands refl)
cert_there (x ∷ bs) zero cert stands = refl
cert_there (x ∷ bs) (suc b) cert stands = ap (λ (xs : List Batch). cert_at xs (suc b)) (certified_step x bs b cert) ∙ cert_there bs b cert stands

certified_else : (bs : List Batch) (k : ℕ) (cert : CertRecord) (b : ℕ) (x : Batch) → k ≢ b → slice_get bs b ≡ Some x → cert_at (certified_at bs k cert) b ≡ Some x.cert
certified_else [] k cert b x other at = absurd (cc)
certified_else (y ∷ bs) zero cert zero x other at = absurd (other refl)
certified_else (y ∷ bs) zero cert (suc b) x other at = ap (option_map (λ (z : Batch). z.cert)) at
certified_else (y ∷ bs) (suc k) cert zero x other at = ap (λ (xs : List Batch). cert_at xs 0) (certified_step y bs k cert) ∙ ap (option_map (λ (z : Batch). z.cert)) at
certified_else (y ∷ bs) (suc k) cert (suc b) x other at = ap (λ (xs : List Batch). cert_at xs (suc b)) (certified_step y bs k cert) ∙ certified_else bs k cert b x (λ same. other (ap suc same)) at

-- ---- its tasks and its facts

tasks_are : (d : DeskRecord) (b : ℕ) → checked_in (jobs_numbered d.jobs d.batches b) ≡ tasks_at d b
tasks_are d b = go (slice_get d.batches b) where
  go : (o : Option Batch) → checked_in (option_map_or (jobs_within d.jobs) o []) ≡ option_map_or (tasks_in d.jobs) o []
  go None = refl
  go (Some x) = refl

tasks_of : (d : DeskRecord) (b : ℕ) (x : Batch) → slice_get d.batches b ≡ Some x → tasks_at d b ≡ tasks_in d.jobs x
tasks_of d b x at = ap (λ (o : Option Batch). option_map_or (tasks_in d.jobs) o []) at

facts_plain : (js : List Job) → All IsAcceptedJob js → facts_kept js ≡ map (λ (j : PlainJob). fact_of j.pie) (map plain_job js)
facts_plain [] all = refl
facts_plain (j ∷ js) all =
    let first : j.checked.fact ≡ fact_of j.checked.pie = fact_is j.checked.pie j.checked.fact (All-head IsAcceptedJob j js all).shows in
    λ i. first i ∷ facts_plain js (All-tail IsAcceptedJob j js all) i

facts_numbered : (jobs : List Job) (bs : List Batch) (b : ℕ) → All IsAcceptedJob jobs
    → facts_kept (jobs_numbered jobs bs b) ≡ map (λ (j : PlainJob). fact_of j.pie) (option_map_or (λ (x : PlainBatch). take x.count (drop x.first (map plain_job jobs))) (slice_get (map plain_batch bs) b) [])
facts_numbered jobs [] b all = refl
facts_numbered jobs (x ∷ bs) zero all =
    facts_plain (jobs_within jobs x) (All-take IsAcceptedJob x.count (drop x.first jobs) (All-drop IsAcceptedJob x.first jobs all)) ∙ ap (map (λ (j : PlainJob). fact_of j.pie)) (sym (stretched jobs x))
facts_numbered jobs (x ∷ bs) (suc b) all = facts_numbered jobs bs b all

-- ---- the turn

not_registered : (b : ℕ) (differs : Option ℕ) (p : Phase) → registers_at (event.Register b differs) (reply.NotTaken p) ≡ None
not_registered b None p = refl
not_registered b (Some i) p = refl

module _ (d : DeskRecord) (g : IsGoodDesk d) (pass b : ℕ) where
  -- where it is taken by the pass, or not
  abbrev held : Bool → Option ℕ
  held t = cond t (Some b) None

  abbrev said : Bool → Option ℕ → Reply
  said t differs = registering_reply (held t) (phase_at (plain_of d) b) differs

  -- nothing but the journal and the turns differs
  stays_at : (differs : Option ℕ) (r : Reply) → is_taken_by pass (phase_at (plain_of d) b) ≡ false → r ≡ reply.NotTaken (phase_at (plain_of d) b)
      → Quiet d (quiet_desk d pass (event.Register b differs) r d.batches d.registry d.closed) pass (event.Register b differs) r
  unfolding reply_to after_event
  stays_at differs r is r_is =
      let x : Entry = record { pass = pass; event = event.Register b differs; reply = r } in
      let stays : plain_of (quiet_desk d pass (event.Register b differs) r d.batches d.registry d.closed) ≡ plain_of d =
      λ i. record { clients = d.clients; jobs = map plain_job d.jobs; batches = map plain_batch d.batches; registered = registered_same d.entries x (ap (registers_at (event.Register b differs)) r_is ∙ not_registered b differs (phase_at (plain_of d) b)) i; closed = d.closed } in
      quiet d g pass (event.Register b differs) r d.batches d.registry d.closed (ap is_admitted r_is) tt
      (r_is ∙ ap (λ (u : Bool). cond u (parcel_reply differs) (reply.NotTaken (phase_at (plain_of d) b))) (sym is))
      (stays ∙ ap (λ (u : Bool). cond u (after_register (plain_of d) b differs) (plain_of d)) (sym is))
      (certs_same d.batches (registers_at (event.Register b differs) r)) g.certs (g.registry ∙ ap registry_of (sym stays))

  strange_at : (k : ℕ) → is_taken_by pass (phase_at (plain_of d) b) ≡ true
      → Quiet d (quiet_desk d pass (event.Register b (Some k)) (reply.Stranger k) d.batches d.registry d.closed) pass (event.Register b (Some k)) (reply.Stranger k)
  unfolding reply_to after_event
  strange_at k is =
      let x : Entry = record { pass = pass; event = event.Register b (Some k); reply = reply.Stranger k } in
      let stays : plain_of (quiet_desk d pass (event.Register b (Some k)) (reply.Stranger k) d.batches d.registry d.closed) ≡ plain_of d =
      λ i. record { clients = d.clients; jobs = map plain_job d.jobs; batches = map plain_batch d.batches; registered = registered_same d.entries x refl i; closed = d.closed } in
      quiet d g pass (event.Register b (Some k)) (reply.Stranger k) d.batches d.registry d.closed refl tt
      (ap (λ (u : Bool). cond u (reply.Stranger k) (reply.NotTaken (phase_at (plain_of d) b))) (sym is))
      (stays ∙ ap (λ (u : Bool). cond u (plain_of d) (plain_of d)) (sym is))
      (certs_same d.batches None) g.certs (g.registry ∙ ap registry_of (sym stays))

  refused_at : (t : Bool) (differs : Option ℕ) → is_taken_by pass (phase_at (plain_of d) b) ≡ t → is_welcome (held t) differs ≡ false
      → Quiet d (quiet_desk d pass (event.Register b differs) (said t differs) d.batches d.registry d.closed) pass (event.Register b differs) (said t differs)
  refused_at true None is un = absurd (cc)
  refused_at true (Some k) is un = strange_at k is
  refused_at false differs is un = stays_at differs (reply.NotTaken (phase_at (plain_of d) b)) is refl

  abbrev added : List FactRecord
  added = with_facts d.registry (facts_kept (jobs_numbered d.jobs d.batches b))

  registered_at : (cert : CertRecord) → is_taken_by pass (phase_at (plain_of d) b) ≡ true → AcceptsBatch cert (tasks_at d b) → AllStandIn cert (tasks_at d b)
      → Quiet d (quiet_desk d pass (event.Register b None) reply.Registered (certified_at d.batches b cert) added d.closed) pass (event.Register b None) reply.Registered
  unfolding reply_to after_event
  registered_at cert is accepted stand =
      let x : Entry = record { pass = pass; event = event.Register b None; reply = reply.Registered } in
      let goes : plain_of (quiet_desk d pass (event.Register b None) reply.Registered (certified_at d.batches b cert) added d.closed) ≡ after_register (plain_of d) b None =
      λ i. record { clients = d.clients; jobs = map plain_job d.jobs; batches = certified_plain d.batches b cert i; registered = filter_map-append (λ (y : Entry). registers_at y.event y.reply) d.entries (x ∷ []) i; closed = d.closed } in
      let facts : with_facts d.registry (facts_kept (jobs_numbered d.jobs d.batches b)) ≡ with_facts [] (shown_facts (plain_of d) ++ map (λ (j : PlainJob). fact_of j.pie) (jobs_at (plain_of d) b)) =
      (λ i. with_facts (g.registry i) (facts_numbered d.jobs d.batches b g.accepted i)) ∙ sym (with_facts-append [] (shown_facts (plain_of d)) (map (λ (j : PlainJob). fact_of j.pie) (jobs_at (plain_of d) b))) in
      quiet d g pass (event.Register b None) reply.Registered (certified_at d.batches b cert) added d.closed refl tt
      (ap (λ (u : Bool). cond u reply.Registered (reply.NotTaken (phase_at (plain_of d) b))) (sym is))
      (goes ∙ ap (λ (u : Bool). cond u (after_register (plain_of d) b None) (plain_of d)) (sym is))
      (λ k y at other. certified_else d.batches b cert k y (λ same. other (ap Some same)) at)
      (certs_certified d.jobs d.batches b cert (λ y at. (subst (AcceptsBatch cert) (tasks_of d b y at) accepted, subst (AllStandIn cert) (tasks_of d b y at) stand)) g.certs)
      (facts ∙ (ap (with_facts []) (sym (facts_registered (plain_of d) b)) ∙ ap registry_of (sym goes)))

-- ---- by what the calls left

-- the batch's number is found where the pass has it
found_is : (d : DeskRecord) (pass b : ℕ) (o : Option ℕ) → o ≡ held_number pass b (phase_of_batch d.batches b) → o ≡ cond (is_taken_by pass (phase_at (plain_of d) b)) (Some b) None
found_is d pass b o o_is = o_is ∙ ap (held_number pass b) (sym (phase_same d.batches b))

pub refused_leaves : (d : DeskRecord) (pass b : ℕ) (p : Phase) (o differs : Option ℕ) (r : Reply) (entries : List Entry) (usages : List Usage) (places : List (Option ℕ)) (batched next : ℕ) → IsKept d usages places batched next
    → p ≡ phase_of_batch d.batches b → o ≡ held_number pass b (phase_of_batch d.batches b) → is_welcome o differs ≡ false → r ≡ registering_reply o p differs
    → entries ≡ d.entries ++ record { pass = pass; event = event.Register b differs; reply = r } ∷ []
    → Left d (record d { entries = entries; turns = (d.turns + 1) % 2 ^ 64 }) pass (event.Register b differs) r usages places batched next
refused_leaves d pass b p o differs r entries usages places batched next k p_is o_is un r_is entries_are =
    let e : Event = event.Register b differs in
    let t : Bool = is_taken_by pass (phase_at (plain_of d) b) in
    let found : o ≡ cond t (Some b) None = found_is d pass b o o_is in
    let q = refused_at d k.good pass b t differs refl (ap (λ (y : Option ℕ). is_welcome y differs) (sym found) ∙ un) in
    let r' : Reply = registering_reply (cond t (Some b) None) (phase_at (plain_of d) b) differs in
    let said_is : r ≡ r' = r_is ∙ (λ i. registering_reply (found i) ((p_is ∙ sym (phase_same d.batches b)) i) differs) in
    let es : d.entries ++ record { pass = pass; event = e; reply = r' } ∷ [] ≡ entries = sym (entries_are ∙ ap (λ (y : Reply). d.entries ++ record { pass = pass; event = e; reply = y } ∷ []) said_is) in
    let same : quiet_desk d pass e r' d.batches d.registry d.closed ≡ record d { entries = entries; turns = (d.turns + 1) % 2 ^ 64 } = λ i. record d { entries = es i; turns = (d.turns + 1) % 2 ^ 64 } in
    let x : Quiet d (record d { entries = entries; turns = (d.turns + 1) % 2 ^ 64 }) pass e r =
    subst (λ (y : Reply). Quiet d (record d { entries = entries; turns = (d.turns + 1) % 2 ^ 64 }) pass e y) (sym said_is) (subst (λ (n : DeskRecord). Quiet d n pass e r') same q) in
    record {
      kept = record {
        good = x.good;
        are_usages = k.are_usages;
        are_places = k.are_places;
        is_batched = k.is_batched;
        is_next = k.is_next;
      };
      turn = x.turn;
    }

taken_is_open : (pass : ℕ) (p : Phase) → is_taken_by pass p ≡ true → is_sealed p ≡ false
taken_is_open pass phase.Sealed is = absurd (cc)
taken_is_open pass (phase.Taken by) is = refl
taken_is_open pass phase.Registered is = refl
taken_is_open pass phase.NoBatch is = refl

-- a batch that is registered is taken by the pass, and its parcel is the batch's
welcome_held : (t : Bool) (b : ℕ) (differs : Option ℕ) → is_welcome (cond t (Some b) None) differs ≡ true → t ≡ true
welcome_held true b differs is = refl
welcome_held false b differs is = absurd (cc)

welcome_same : (o differs : Option ℕ) → is_welcome o differs ≡ true → differs ≡ None
welcome_same None differs is = absurd (cc)
welcome_same (Some b) None is = refl
welcome_same (Some b) (Some i) is = absurd (cc)

pub record Registered (d new : DeskRecord) (pass b : ℕ) (differs : Option ℕ) (r : Reply) (certified : CertifiedRecord) (usages : List Usage) (places : List (Option ℕ)) (batched next : ℕ) : Type 0 where
  pub left : Left d new pass (event.Register b differs) r usages places batched next
  pub is_registered : r ≡ reply.Registered
  pub keeps : KeepsJust new b certified

pub registered_leaves : (d : DeskRecord) (pass b : ℕ) (p : Phase) (o differs : Option ℕ) (r : Reply) (certified : CertifiedRecord) (cert : CertRecord) (parcel : ParcelRecord) (registry facts : List FactRecord) (batches : List Batch) (entries : List Entry)
    (usages : List Usage) (places : List (Option ℕ)) (batched next : ℕ) → IsKept d usages places batched next
    → o ≡ held_number pass b (phase_of_batch d.batches b) → is_welcome o differs ≡ true → r ≡ registering_reply o p differs
    → cert ≡ certified.cert → parcel ≡ certified.parcel → AcceptsBatch cert parcel.tasks → AllStandIn cert parcel.tasks
    → IsFound certified.parcel.tasks (checked_in (jobs_numbered d.jobs d.batches b)) differs
    → facts ≡ facts_kept (jobs_numbered d.jobs d.batches b) → registry ≡ with_facts d.registry facts → batches ≡ certified_at d.batches b cert
    → entries ≡ d.entries ++ record { pass = pass; event = event.Register b differs; reply = r } ∷ []
    → Registered d (record d { batches = batches; registry = registry; entries = entries; turns = (d.turns + 1) % 2 ^ 64 }) pass b differs r certified usages places batched next
registered_leaves d pass b p o differs r certified cert parcel registry facts batches entries usages places batched next k o_is welcome r_is cert_is parcel_is accepts stands same_tasks facts_are registry_is batches_are entries_are =
    let t : Bool = is_taken_by pass (phase_at (plain_of d) b) in
    let found : o ≡ cond t (Some b) None = found_is d pass b o o_is in
    let none : differs ≡ None = welcome_same o differs welcome in
    let taken : t ≡ true = welcome_held t b differs (ap (λ (y : Option ℕ). is_welcome y differs) (sym found) ∙ welcome) in
    let o_some : o ≡ Some b = found ∙ ap (λ (u : Bool). cond u (Some b) None) taken in
    let tasks : certified.parcel.tasks ≡ tasks_at d b = subst (IsFound certified.parcel.tasks (checked_in (jobs_numbered d.jobs d.batches b))) none same_tasks ∙ tasks_are d b in
    let accepted : AcceptsBatch certified.cert certified.parcel.tasks = subst (λ (p : ParcelRecord). AcceptsBatch certified.cert p.tasks) parcel_is (subst (λ (x : CertRecord). AcceptsBatch x parcel.tasks) cert_is accepts) in
    let stand : AllStandIn certified.cert certified.parcel.tasks = subst (λ (p : ParcelRecord). AllStandIn certified.cert p.tasks) parcel_is (subst (λ (x : CertRecord). AllStandIn x parcel.tasks) cert_is stands) in
    let q = registered_at d k.good pass b certified.cert taken (subst (AcceptsBatch certified.cert) tasks accepted) (subst (AllStandIn certified.cert) tasks stand) in
    let r_same : r ≡ reply.Registered = r_is ∙ (λ i. registering_reply (o_some i) p (none i)) in
    let bs : certified_at d.batches b certified.cert ≡ batches = sym (batches_are ∙ ap (certified_at d.batches b) cert_is) in
    let reg : with_facts d.registry (facts_kept (jobs_numbered d.jobs d.batches b)) ≡ registry = sym (registry_is ∙ ap (with_facts d.registry) facts_are) in
    let es : d.entries ++ record { pass = pass; event = event.Register b None; reply = reply.Registered } ∷ [] ≡ entries = sym (entries_are ∙ (λ i. d.entries ++ record { pass = pass; event = event.Register b (none i); reply = r_same i } ∷ [])) in
    let new : DeskRecord = record d { batches = batches; registry = registry; entries = entries; turns = (d.turns + 1) % 2 ^ 64 } in
    let same : quiet_desk d pass (event.Register b None) reply.Registered (certified_at d.batches b certified.cert) (with_facts d.registry (facts_kept (jobs_numbered d.jobs d.batches b))) d.closed ≡ new =
    λ i. record d { batches = bs i; registry = reg i; entries = es i; turns = (d.turns + 1) % 2 ^ 64 } in
    let x : Quiet d new pass (event.Register b None) reply.Registered = subst (λ (n : DeskRecord). Quiet d n pass (event.Register b None) reply.Registered) same q in
    let y : Quiet d new pass (event.Register b differs) r =
    subst (λ (z : Reply). Quiet d new pass (event.Register b differs) z) (sym r_same) (subst (λ (z : Option ℕ). Quiet d new pass (event.Register b z) reply.Registered) (sym none) x) in
    let at : phase_of_batch d.batches b ≡ phase_at (plain_of d) b = sym (phase_same d.batches b) in
    record {
      left = record {
        kept = record {
          good = y.good;
          are_usages = k.are_usages;
          are_places = k.are_places;
          is_batched = k.is_batched ∙ (count_certified d.batches b certified.cert ∙ ap jobs_batched bs);
          is_next = k.is_next ∙ (next_certified d.batches b certified.cert (ap is_sealed at ∙ taken_is_open pass (phase_at (plain_of d) b) taken) ∙ ap before_sealed bs);
        };
        turn = y.turn;
      };
      is_registered = r_same;
      keeps = ap (λ (xs : List Batch). cert_at xs b) (sym bs) ∙ cert_there d.batches b certified.cert (λ none. taken_isnt pass (phase_at (plain_of d) b) phase.NoBatch taken refl (sym at ∙ none));
    }

-- ---- where the parcel differs

least_is : (given kept : List CheckedRecord) (differs : Option ℕ) → IsFound given kept differs → IsLeastDifference (pies_in given) (pies_in kept) differs
least_is given kept None same = ap pies_in same
least_is given kept (Some i) found = (
  found.0,
  λ k lt. slice_get-map (λ (t : CheckedRecord). t.pie) given k ∙ (ap (option_map (λ (t : CheckedRecord). t.pie)) (found.1 k lt) ∙ sym (slice_get-map (λ (t : CheckedRecord). t.pie) kept k)),
)

-- of the desk as it is seen
pub registering : (d v new : DeskRecord) (pass b : ℕ) (certified : CertifiedRecord) (differs : Option ℕ) (r : Reply) → d ≡ v
    → IsFound certified.parcel.tasks (checked_in (jobs_numbered d.jobs d.batches b)) differs
    → IsTurn d new pass (event.Register b differs) no_pie r → IsRegistering v new pass b certified r
registering d v new pass b certified differs r same found turn =
    subst (λ (x : DeskRecord). IsRegistering x new pass b certified r) same
    (record {
      differs = differs;
      least = subst (λ (ts : List CheckedRecord). IsLeastDifference (pies_in certified.parcel.tasks) (pies_in ts) differs) (tasks_are d b) (least_is certified.parcel.tasks (checked_in (jobs_numbered d.jobs d.batches b)) differs found);
      turn = turn;
    })

pub found_in : (given given' : List CheckedRecord) (kept kept' : List Job) (differs : Option ℕ) → given ≡ given' → kept ≡ kept' → IsFound given (checked_in kept) differs → IsFound given' (checked_in kept') differs
found_in given given' kept kept' differs same same' found =
    subst (λ (js : List Job). IsFound given' (checked_in js) differs) same' (subst (λ (ts : List CheckedRecord). IsFound ts (checked_in kept) differs) same found)

-- how it ends
pub refused_ends : (v new : DeskRecord) (pass b : ℕ) (certified : CertifiedRecord) (o differs : Option ℕ) (p : Phase) (r : Reply) (e : RegisterEnd) → is_welcome o differs ≡ false → r ≡ registering_reply o p differs
    → e ≡ refused_end o p differs certified → IsRegistering v new pass b certified r → IsRegisterEnd v new pass b certified e
refused_ends v new pass b certified o differs p r e un r_is e_is turn =
    subst (IsRegisterEnd v new pass b certified) (sym e_is) (go o differs un (subst (IsRegistering v new pass b certified) r_is turn)) where
      go : (o differs : Option ℕ) → is_welcome o differs ≡ false → IsRegistering v new pass b certified (registering_reply o p differs) → IsRegisterEnd v new pass b certified (refused_end o p differs certified)
      go None differs un turn = (turn, refl)
      go (Some k) None un turn = absurd (cc)
      go (Some k) (Some i) un turn = (turn, refl)

pub registered_ends : (d v new : DeskRecord) (pass b : ℕ) (certified : CertifiedRecord) (differs : Option ℕ) (r : Reply) (usages : List Usage) (places : List (Option ℕ)) (batched next : ℕ) → d ≡ v
    → IsFound certified.parcel.tasks (checked_in (jobs_numbered d.jobs d.batches b)) differs
    → Registered d new pass b differs r certified usages places batched next → IsRegistering v new pass b certified reply.Registered × KeepsJust new b certified
registered_ends d v new pass b certified differs r usages places batched next same found x =
    (subst (IsRegistering v new pass b certified) x.is_registered (registering d v new pass b certified differs r same found x.left.turn), x.keeps)
