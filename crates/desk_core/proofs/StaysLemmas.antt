-- A batch's jobs don't change, a registered batch stays registered, and who holds a batch may register it.
use Rattle.std.proofs.Common.{◌≡◌, ◌≢◌, inl, inr, ◌⊎◌, ℕ, zero, suc, ◌+◌, ◌≤◌, ◌==◌, Bool, true, false, cond, List, [], ◌∷◌, ◌++◌, length, map, refl, sym, ap, ◌∙◌, subst, arith, length-append}
use Rattle.std.specs.Prelude.{All, Any, Contains, Option, Some, None, slice_get}
use Rattle.std.specs.List.{list_any}
use Rattle.std.proofs.lemmas.Bool.{eq-eqb}
use Rattle.std.proofs.lemmas.List.{map-append, length-map, length-drop}
use Rattle.std.proofs.lemmas.List.Elements.{All-push, All-cons, All-head, All-tail, All-nil, Contains-append_cases, Contains-append_left}
use Rattle.cairo_model.specs.Pie.Acceptance.{FactRecord}
use Rattle.cairo_model.specs.Pie.Facts.{fact_of}
use Rattle.cairo_model.specs.Pie.FactOrder.{same_fact}
use Rattle.cairo_model.specs.Pie.Records.{PieRecord}
use Rattle.cairo_model.specs.Pie.Shapes.{shape_of}
use Rattle.fact_registry.proofs.FactLists.{found_is_there, there_is_found}
use Rattle.desk_core.specs.Desks.{PlainDesk, PlainJob, PlainBatch, empty_desk, batched, waiting_jobs, phase_at, jobs_at, jobs_of, is_taken_by, first_sealed, registered_jobs, set_phase, shown_facts}
use Rattle.desk_core.specs.SoundDesks.{shapes_in}
use Rattle.desk_core.specs.Hands.{in_hand, in_hand_after, entries_of_pass}
use Rattle.desk_core.specs.Journals.{Move, move_of, after_move, played}
use Rattle.desk_core.specs.Quotas.{is_admitted}
use Rattle.desk_core.specs.Registrations.{IsLeastDifference}
use Rattle.desk_core.specs.Stays.{ContinuesTo, StaysLaw, TakesLaw, HoldsOnLaw, RegistersLaw, RegisteredStaysLaw, ReturnsLaw, ShownStaysLaw, YesStaysLaw, desk_seen, pies_at, take_entry}
use Rattle.desk_core.specs.Next.{reply_to, after_event, submit_reply, with_job, next_batch, after_take, after_register, after_give_back, take_reply, parcel_reply}
use Rattle.desk_core.specs.declared.entry.FullEntry.{FullEntry}
use Rattle.desk_core.specs.declared.event.Event.{Event}
use Rattle.desk_core.specs.declared.event.Event.TheVariants as event
use Rattle.desk_core.specs.declared.phase.Phase.{Phase}
use Rattle.desk_core.specs.declared.phase.Phase.TheVariants as phase
use Rattle.desk_core.specs.declared.reply.Reply.TheVariants as reply
use Rattle.desk_core.proofs.BatchLemmas.{phase_in, count_moved, phase_moved, registered_still}
use Rattle.desk_core.proofs.CutLemmas.{cut_is_longest}
use Rattle.desk_core.proofs.HandLemmas.{hand_law}
use Rattle.desk_core.proofs.ListFacts.{sum_one, stretch_more}
use Rattle.desk_core.proofs.RegistryLemmas.{at_in, at_moved, facts_have, flat_has, has_flat, have_facts}
use Rattle.desk_core.proofs.SoundSteps.{first_is_sealed, taken_is}

abbrev Ends : ℕ → PlainBatch → Type 0
Ends n b = b.first + b.count ≤ n

-- the batches lie within the jobs, and those that were registered are in that phase
record Lies (d : PlainDesk) : Type 0 where
  inside : batched d ≤ length d.jobs
  batches : All (Ends (length d.jobs)) d.batches
  registered : (b : ℕ) → Contains d.registered b → phase_at d b ≡ phase.Registered

-- what stays from one desk to the next
record Keeps (d d' : PlainDesk) : Type 0 where
  lies : Lies d'
  jobs : (b : ℕ) → phase_at d b ≢ phase.NoBatch → jobs_at d' b ≡ jobs_at d b
  there : (b : ℕ) → phase_at d b ≢ phase.NoBatch → phase_at d' b ≢ phase.NoBatch
  registered : (b : ℕ) → phase_at d b ≡ phase.Registered → phase_at d' b ≡ phase.Registered
  list : (b : ℕ) → Contains d.registered b → Contains d'.registered b

-- ---- lists of batches

ends_later : (n m : ℕ) (bs : List PlainBatch) → n ≤ m → All (Ends n) bs → All (Ends m) bs
ends_later n m [] le all = All-nil (Ends m)
ends_later n m (x ∷ bs) le all = All-cons (Ends m) x bs (omega (arith, le, All-head (Ends n) x bs all)) (ends_later n m bs le (All-tail (Ends n) x bs all))

ends_moved : (n : ℕ) (bs : List PlainBatch) (b : ℕ) (p : Phase) → All (Ends n) bs → All (Ends n) (set_phase bs b p)
ends_moved n [] b p all = all
ends_moved n (x ∷ bs) zero p all = All-cons (Ends n) _ bs (All-head (Ends n) x bs all) (All-tail (Ends n) x bs all)
ends_moved n (x ∷ bs) (suc b) p all = All-cons (Ends n) x (set_phase bs b p) (All-head (Ends n) x bs all) (ends_moved n bs b p (All-tail (Ends n) x bs all))

more_jobs : (jobs : List PlainJob) (j : PlainJob) (bs : List PlainBatch) (b : ℕ) → All (Ends (length jobs)) bs → at_in (jobs ++ j ∷ []) bs b ≡ at_in jobs bs b
more_jobs jobs j [] b all = refl
more_jobs jobs j (x ∷ bs) zero all = stretch_more x.count x.first jobs (j ∷ []) (All-head (Ends (length jobs)) x bs all)
more_jobs jobs j (x ∷ bs) (suc b) all = more_jobs jobs j bs b (All-tail (Ends (length jobs)) x bs all)

more_batches : (jobs : List PlainJob) (bs : List PlainBatch) (x : PlainBatch) (b : ℕ) → phase_in bs b ≢ phase.NoBatch → at_in jobs (bs ++ x ∷ []) b ≡ at_in jobs bs b
more_batches jobs [] x b ne = absurd (ne refl)
more_batches jobs (y ∷ bs) x zero ne = refl
more_batches jobs (y ∷ bs) x (suc b) ne = more_batches jobs bs x b ne

still_there : (bs : List PlainBatch) (x : PlainBatch) (b : ℕ) → phase_in bs b ≢ phase.NoBatch → phase_in (bs ++ x ∷ []) b ≢ phase.NoBatch
still_there [] x b ne = absurd (ne refl)
still_there (y ∷ bs) x zero ne = ne
still_there (y ∷ bs) x (suc b) ne = still_there bs x b ne

moved_there : (bs : List PlainBatch) (c : ℕ) (p : Phase) (b : ℕ) → p ≢ phase.NoBatch → phase_in bs b ≢ phase.NoBatch → phase_in (set_phase bs c p) b ≢ phase.NoBatch
moved_there [] c p b stands ne = ne
moved_there (x ∷ bs) zero p zero stands ne = stands
moved_there (x ∷ bs) zero p (suc b) stands ne = ne
moved_there (x ∷ bs) (suc c) p zero stands ne = ne
moved_there (x ∷ bs) (suc c) p (suc b) stands ne = moved_there bs c p b stands ne

-- where no registered batch gets another phase
moved_registered : (bs : List PlainBatch) (c : ℕ) (p : Phase) (b : ℕ) → (phase_in bs c ≡ phase.Registered → p ≡ phase.Registered) → phase_in bs b ≡ phase.Registered → phase_in (set_phase bs c p) b ≡ phase.Registered
moved_registered [] c p b stays is = is
moved_registered (x ∷ bs) zero p zero stays is = stays is
moved_registered (x ∷ bs) zero p (suc b) stays is = is
moved_registered (x ∷ bs) (suc c) p zero stays is = is
moved_registered (x ∷ bs) (suc c) p (suc b) stays is = moved_registered bs c p b stays is

-- ---- one event

same : (d : PlainDesk) → Lies d → Keeps d d
same d l = record { lies = l; jobs = λ b ne. refl; there = λ b ne. ne; registered = λ b is. is; list = λ b is. is }

either_keeps : (c : Bool) (d x y : PlainDesk) → (c ≡ true → Keeps d x) → (c ≡ false → Keeps d y) → Keeps d (cond c x y)
either_keeps true d x y p q = p refl
either_keeps false d x y p q = q refl

keeps_job : (d : PlainDesk) → Lies d → (client : ℕ) (pie : PieRecord) → Keeps d (with_job d client pie)
keeps_job d l client pie =
    let longer : length d.jobs ≤ length (with_job d client pie).jobs = omega (arith, length-append d.jobs (record { client = client; number = length (jobs_of client d.jobs); pie = pie } ∷ [])) in
    record {
      lies = record { inside = omega (arith, l.inside, longer); batches = ends_later (length d.jobs) (length (with_job d client pie).jobs) d.batches longer l.batches; registered = l.registered };
      jobs = λ b ne. more_jobs d.jobs _ d.batches b l.batches;
      there = λ b ne. ne;
      registered = λ b is. is;
      list = λ b is. is;
    }

some_left : (d : PlainDesk) → Lies d → batched d + (next_batch d).count ≤ length d.jobs
some_left d l = omega (arith, l.inside, (cut_is_longest (shapes_in (waiting_jobs d))).there, length-map (waiting_jobs d) (λ (j : PlainJob). shape_of j.pie), length-drop (batched d) d.jobs)

keeps_sealed : (d : PlainDesk) → Lies d → Keeps d (record d { batches = d.batches ++ next_batch d ∷ [] })
keeps_sealed d l = record {
  lies = record {
    inside = omega (arith, some_left d l, sum_one (λ (b : PlainBatch). b.count) d.batches (next_batch d));
    batches = All-push (Ends (length d.jobs)) d.batches (next_batch d) l.batches (some_left d l);
    registered = λ b is. registered_still d.batches (next_batch d) b (l.registered b is);
  };
  jobs = λ b ne. more_batches d.jobs d.batches (next_batch d) b ne;
  there = λ b ne. still_there d.batches (next_batch d) b ne;
  registered = λ b is. registered_still d.batches (next_batch d) b is;
  list = λ b is. is;
}

-- batch c gets the phase p, where it isn't registered before or stays so, and those that were registered are the new list
module _ (d : PlainDesk) (l : Lies d) (c : ℕ) (p : Phase) (stands : p ≢ phase.NoBatch) (stays : phase_at d c ≡ phase.Registered → p ≡ phase.Registered) where
  keeps_moved : (registered : List ℕ) → ((b : ℕ) → Contains registered b → Contains d.registered b ⊎ ((b ≡ c) × ((p ≡ phase.Registered) × (phase_at d c ≢ phase.NoBatch)))) → ((b : ℕ) → Contains d.registered b → Contains registered b)
      → Keeps d (record d { batches = set_phase d.batches c p; registered = registered })
  keeps_moved registered only all = record {
    lies = record {
      inside = omega (arith, l.inside, count_moved d.batches c p);
      batches = ends_moved (length d.jobs) d.batches c p l.batches;
      registered = λ b is. elim (only b is) [
        | inl old ↦ moved_registered d.batches c p b stays (l.registered b old)
        | inr new ↦ subst (λ (k : ℕ). phase_in (set_phase d.batches c p) k ≡ phase.Registered) (sym new.0) (phase_moved d.batches c p new.1.1 ∙ new.1.0)
      ];
    };
    jobs = λ b ne. at_moved d.jobs d.batches c p b;
    there = λ b ne. moved_there d.batches c p b stands ne;
    registered = λ b is. moved_registered d.batches c p b stays is;
    list = all;
  }

  keeps_phase : Keeps d (record d { batches = set_phase d.batches c p })
  keeps_phase = keeps_moved d.registered (λ b is. inl is) (λ b is. is)

keeps_taken : (d : PlainDesk) → Lies d → (pass : ℕ) (o : Option ℕ) → first_sealed d ≡ o → Keeps d (after_take d pass o)
keeps_taken d l pass None is = same d l
keeps_taken d l pass (Some b) is = keeps_phase d l b (phase.Taken pass) (λ e. cc) (λ e. absurd (let f : phase.Sealed ≡ phase.Registered = sym (first_is_sealed d b is) ∙ e in cc))

-- one more is in the list
one_more : (bs : List ℕ) (c b : ℕ) → Contains (bs ++ c ∷ []) b → Contains bs b ⊎ (b ≡ c)
one_more bs c b is = elim (Contains-append_cases bs (c ∷ []) b is) [
  | inl old ↦ inl old
  | inr new ↦ inr (only new)
] where
  only : Contains (c ∷ []) b → b ≡ c
  only (zero, lt, same) = sym same
  only (suc k, lt, same) = absurd (omega (arith, lt))

keeps_registers : (d : PlainDesk) → Lies d → (b : ℕ) (o : Option ℕ) → phase_at d b ≢ phase.NoBatch → Keeps d (after_register d b o)
keeps_registers d l b None there = keeps_moved d l b phase.Registered (λ e. cc) (λ e. refl) (d.registered ++ b ∷ [])
    (λ k is. elim (one_more d.registered b k is) [
      | inl old ↦ inl old
      | inr new ↦ inr (new, (refl, there))
    ])
    (λ k is. Contains-append_left d.registered (b ∷ []) k is)
keeps_registers d l b (Some i) there = same d l

keeps_event : (d : PlainDesk) → Lies d → (pass : ℕ) (e : Event) (pie : PieRecord) → Keeps d (after_event d pass e pie)
unfolding after_event
keeps_event d l pass (event.Submit client n) pie = either_keeps (is_admitted (submit_reply d client n)) d (with_job d client pie) d (λ is. keeps_job d l client pie) (λ is. same d l)
keeps_event d l pass event.Seal pie = either_keeps (length (waiting_jobs d) == 0) d d _ (λ is. same d l) (λ is. keeps_sealed d l)
keeps_event d l pass event.Take pie = keeps_taken d l pass (first_sealed d) refl
keeps_event d l pass (event.Register b differs) pie =
    either_keeps (is_taken_by pass (phase_at d b)) d (after_register d b differs) d (λ is. keeps_registers d l b differs (taken_is pass (phase_at d b) is).0) (λ is. same d l)
keeps_event d l pass (event.GiveBack b) pie =
    either_keeps (is_taken_by pass (phase_at d b)) d (after_give_back d b) d (λ is. keeps_phase d l b phase.Sealed (λ e. cc) (λ e. absurd ((taken_is pass (phase_at d b) is).1 e))) (λ is. same d l)
keeps_event d l pass (event.Ask client fact) pie = same d l
keeps_event d l pass (event.Status client number) pie = same d l
keeps_event d l pass event.Close pie = record {
  lies = record { inside = l.inside; batches = l.batches; registered = l.registered };
  jobs = λ b ne. refl;
  there = λ b ne. ne;
  registered = λ b is. is;
  list = λ b is. is;
}

-- ---- many events

keeps_all : (d : PlainDesk) → Lies d → (ms : List Move) → Keeps d (played d ms)
keeps_all d l [] = same d l
keeps_all d l (m ∷ ms) =
    let one = keeps_event d l m.pass m.event m.pie in
    let rest = keeps_all (after_move d m) one.lies ms in
    record {
      lies = rest.lies;
      jobs = λ b ne. rest.jobs b (one.there b ne) ∙ one.jobs b ne;
      there = λ b ne. rest.there b (one.there b ne);
      registered = λ b is. rest.registered b (one.registered b is);
      list = λ b is. rest.list b (one.list b is);
    }

lies_empty : (clients : ℕ) → Lies (empty_desk clients)
lies_empty clients = record { inside = omega arith; batches = All-nil (Ends 0); registered = λ b is. absurd (omega (arith, is.1)) }

played-append : (d : PlainDesk) (xs ys : List Move) → played d (xs ++ ys) ≡ played (played d xs) ys
played-append d [] ys = refl
played-append d (x ∷ xs) ys = played-append (after_move d x) xs ys

seen_more : (clients : ℕ) (seen more : List FullEntry) → desk_seen clients (seen ++ more) ≡ played (desk_seen clients seen) (map move_of more)
seen_more clients seen more = ap (played (empty_desk clients)) (map-append move_of seen more) ∙ played-append (empty_desk clients) (map move_of seen) (map move_of more)

lies_seen : (clients : ℕ) (seen : List FullEntry) → Lies (desk_seen clients seen)
lies_seen clients seen = (keeps_all (empty_desk clients) (lies_empty clients) (map move_of seen)).lies

keeps_seen : (clients : ℕ) (seen more : List FullEntry) → Keeps (desk_seen clients seen) (desk_seen clients (seen ++ more))
keeps_seen clients seen more =
    subst (Keeps (desk_seen clients seen)) (sym (seen_more clients seen more)) (keeps_all (desk_seen clients seen) (lies_seen clients seen) (map move_of more))

module _ (journal more : List FullEntry) (d later : PlainDesk) (g : ContinuesTo journal more d later) where
  keeps_on : Keeps d later
  keeps_on =
      let now : desk_seen d.clients (journal ++ more) ≡ later = ap (λ (n : ℕ). desk_seen n (journal ++ more)) (sym g.clients) ∙ g.after.ends in
      subst (Keeps d) now (subst (λ (x : PlainDesk). Keeps x (desk_seen d.clients (journal ++ more))) g.before.ends (keeps_seen d.clients journal more))

  lies_before : Lies d
  lies_before = subst Lies g.before.ends (lies_seen d.clients journal)

  -- the facts of the registered batches are among those that are shown later
  facts_stay : (fact : FactRecord) → Contains (shown_facts d) fact → Contains (shown_facts later) fact
  facts_stay fact is =
      let job = facts_have (registered_jobs d) fact is in
      let batch = flat_has (jobs_at d) d.registered job.0 job.1.0 in
      let there : phase_at d batch.0 ≢ phase.NoBatch = (λ e. let f : phase.Registered ≡ phase.NoBatch = sym (lies_before.registered batch.0 batch.1.0) ∙ e in cc) in
      have_facts (registered_jobs later) job.0 fact
      (has_flat (jobs_at later) later.registered batch.0 job.0 (keeps_on.list batch.0 batch.1.0)
      (subst (λ (js : List PlainJob). Contains js job.0) (sym (keeps_on.jobs batch.0 there)) batch.1.1)) job.1.1

pub stays_law : StaysLaw
stays_law journal more d later g b there = (keeps_on journal more d later g).jobs b there

pub registered_stays_law : RegisteredStaysLaw
registered_stays_law journal more d later g b is = (keeps_on journal more d later g).registered b is

pub shown_stays_law : ShownStaysLaw
shown_stays_law journal more d later g fact shown =
    let b : ℕ = shown.0 in
    let there : phase_at d b ≢ phase.NoBatch = (λ e. let f : phase.Registered ≡ phase.NoBatch = sym shown.1.0 ∙ e in cc) in
    let k = keeps_on journal more d later g in
    let at = shown.1.1 in
    (b, (k.registered b shown.1.0, subst (λ (js : List PlainJob). Any (λ (j : PlainJob). fact_of j.pie ≡ fact) js) (sym (k.jobs b there)) at))

said_yes : (t : Bool) → cond t reply.Yes reply.No ≡ reply.Yes → t ≡ true
said_yes true e = refl
said_yes false e = absurd (cc)

pub yes_stays_law : YesStaysLaw
unfolding reply_to
yes_stays_law journal more d later g pass client fact said other asker =
    let found : list_any (same_fact fact) (shown_facts d) ≡ true = said_yes _ said in
    ap (λ (t : Bool). cond t reply.Yes reply.No) (there_is_found (shown_facts later) fact (facts_stay journal more d later g fact (found_is_there (shown_facts d) fact found)))

pub holds_on_law : HoldsOnLaw
holds_on_law clients seen mine more b pies h =
    let k = keeps_seen clients seen more in
    record { has = h.has; there = k.there b h.there; are = ap (map (λ (j : PlainJob). j.pie)) (k.jobs b h.there) ∙ h.are }

-- ---- who holds a batch

if_true : {X : Type 0} (b : Bool) (x y : X) → b ≡ true → cond b x y ≡ x
if_true true x y e = refl
if_true false x y e = absurd (cc)

in_hand-append : (b : ℕ) (had : Bool) (xs ys : List FullEntry) → in_hand b had (xs ++ ys) ≡ in_hand b (in_hand b had xs) ys
in_hand-append b had [] ys = refl
in_hand-append b had (x ∷ xs) ys = in_hand-append b (in_hand_after b had x.entry.event x.entry.reply) xs ys

none_differs : (xs ys : List PieRecord) → xs ≡ ys → (o : Option ℕ) → IsLeastDifference xs ys o → o ≡ None
none_differs xs ys is None d = refl
none_differs xs ys is (Some i) d = absurd (d.0 (ap (λ (zs : List PieRecord). slice_get zs i) is))

pub registers_law : RegistersLaw
unfolding reply_to
registers_law journal d legal pass b pies h differs at =
    let taken : is_taken_by pass (phase_at d b) ≡ true = hand_law journal d legal pass b ∙ h.has in
    let are : pies ≡ pies_at d b = sym h.are ∙ ap (λ (x : PlainDesk). pies_at x b) legal.ends in
    if_true (is_taken_by pass (phase_at d b)) (parcel_reply differs) (reply.NotTaken (phase_at d b)) taken ∙ ap parcel_reply (none_differs pies (pies_at d b) are differs at)

pub returns_law : ReturnsLaw
unfolding reply_to
returns_law journal d legal pass b has = if_true (is_taken_by pass (phase_at d b)) reply.Returned (reply.NotTaken (phase_at d b)) (hand_law journal d legal pass b ∙ has)

-- ---- who takes one

taken_one : (b : ℕ) (o : Option ℕ) → take_reply o ≡ reply.TakenBatch b → o ≡ Some b
taken_one b None e = absurd (cc)
taken_one b (Some c) e = cc

own_hand : (b : ℕ) (had : Bool) → in_hand_after b had event.Take (reply.TakenBatch b) ≡ true
own_hand b had = if_true (b == b) true had (eq-eqb b b refl)

pub takes_law : TakesLaw
unfolding reply_to
takes_law journal d legal pass b is =
    let first : first_sealed d ≡ Some b = taken_one b (first_sealed d) is in
    let e = take_entry pass b in
    let k : Keeps (desk_seen d.clients journal) (desk_seen d.clients (journal ++ e ∷ [])) = keeps_seen d.clients journal (e ∷ []) in
    let there : phase_at (desk_seen d.clients journal) b ≢ phase.NoBatch =
    (λ none. let f : phase.Sealed ≡ phase.NoBatch = sym (first_is_sealed d b first) ∙ (ap (λ (x : PlainDesk). phase_at x b) (sym legal.ends) ∙ none) in cc) in
    record {
      has = in_hand-append b false (entries_of_pass pass journal) (e ∷ []) ∙ own_hand b _;
      there = k.there b there;
      are = ap (map (λ (j : PlainJob). j.pie)) (k.jobs b there) ∙ ap (λ (x : PlainDesk). pies_at x b) legal.ends;
    }
