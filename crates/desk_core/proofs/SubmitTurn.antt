-- A submission is a turn.
use Rattle.std.proofs.Common.{◌≡◌, ℕ, ◌+◌, ◌%◌, ◌^◌, ◌<◌, Bool, true, false, cond, List, [], ◌∷◌, ◌++◌, length, map, refl, sym, ap, ◌∙◌, subst, arith, length-append}
use Rattle.std.specs.Prelude.{All, Option, Some, None}
use Rattle.std.proofs.lemmas.List.{map-append, length-map}
use Rattle.std.proofs.lemmas.List.Elements.{All-push, All-cons, All-head, All-tail, All-nil}
use Rattle.cairo_model.specs.Pie.Acceptance.{CheckedRecord, AcceptedWith}
use Rattle.cairo_model.specs.Pie.Records.{PieRecord}
use Rattle.cairo_model.specs.Pie.Shapes.{shape_of}
use Rattle.desk_core.specs.DeskRecords.{DeskRecord, admitted_in, full_entries, journal_of, pies_of, plain_batch, plain_job, plain_of, tasks_in}
use Rattle.desk_core.specs.GoodDesks.{HasCert, IsAcceptedJob, IsGoodDesk, KeepsCert}
use Rattle.desk_core.specs.Turns.{IsTurn, offer_note, pie_of}
use Rattle.desk_core.specs.Working.Steps.{AcceptedOffer, IsSmallUsage, admitted_jobs, reply_by_usage, used_after}
use Rattle.desk_core.specs.Working.Telling.{HasPlace, places_after}
use Rattle.desk_core.specs.Desks.{PlainDesk, jobs_of, shapes_of}
use Rattle.desk_core.specs.SoundDesks.{IsBatchOf}
use Rattle.desk_core.specs.Journals.{HasItsPie}
use Rattle.desk_core.specs.Quotas.{is_admitted}
use Rattle.desk_core.specs.RegisteredFacts.{registry_of}
use Rattle.fact_registry.specs.Registries.{with_facts}
use Rattle.desk_core.specs.Next.{reply_to, after_event, offered_reply, with_job}
use Rattle.desk_core.specs.declared.entry.Entry.{Entry}
use Rattle.desk_core.specs.declared.event.Event.TheVariants as event
use Rattle.desk_core.specs.declared.event.OfferNote.{OfferNote}
use Rattle.desk_core.specs.declared.batch.Batch.{Batch}
use Rattle.desk_core.specs.declared.job.Job.{Job}
use Rattle.desk_core.specs.declared.offer.Offer.{Offer}
use Rattle.desk_core.specs.declared.offer.Offer.TheVariants as offer
use Rattle.desk_core.specs.declared.reply.Reply.{Reply}
use Rattle.desk_core.specs.declared.reply.Reply.TheVariants as reply
use Rattle.desk_core.proofs.CertLemmas.{certs_same}
use Rattle.desk_core.proofs.Entries.{full_same, full_new, admitted_more, registered_same}
use Rattle.desk_core.proofs.FactLemmas.{fact_is}
use Rattle.desk_core.proofs.ListFacts.{stretch_more}
use Rattle.desk_core.proofs.Places.{has_place, next_number, places_kept}
use Rattle.desk_core.proofs.RegistryLemmas.{facts_with_job}
use Rattle.desk_core.specs.Kept.{IsKept, usage_of}
use Rattle.desk_core.specs.declared.usage.Usage.{Usage}
use Rattle.desk_core.proofs.Turns.{good_after}
use Rattle.desk_core.proofs.Usages.{by_usage, some_same, usage_small, usages_kept}
use Rattle.std.specs.Prelude.{slice_get, slice_set}

-- the desk after the code's steps
abbrev pub submitted_desk : DeskRecord → ℕ → ℕ → Offer → Reply → DeskRecord
submitted_desk d pass client o r = record d {
  jobs = admitted_jobs d.jobs client o r;
  entries = d.entries ++ record { pass = pass; event = event.Submit client (offer_note o); reply = r } ∷ [];
  turns = (d.turns + 1) % 2 ^ 64;
}

-- what the turn leaves, apart from what is legal and sound
record Left (d new : DeskRecord) : Type 0 where
  accepted : All IsAcceptedJob new.jobs
  certs : All (KeepsCert new.jobs) new.batches
  registry : new.registry ≡ registry_of (plain_of new)
  counts : admitted_in new.entries ≡ length new.jobs

record Outcome (d : DeskRecord) (pass client : ℕ) (o : Offer) (r : Reply) : Type 0 where
  turn : IsTurn d (submitted_desk d pass client o r) pass (event.Submit client (offer_note o)) (pie_of o) r
  has : HasItsPie (is_admitted r) (cond (is_admitted r) (Some (pie_of o)) None) (event.Submit client (offer_note o))
  left : Left d (submitted_desk d pass client o r)

not_chosen : (b : Bool) (x d : PlainDesk) → b ≡ false → cond b x d ≡ d
not_chosen true x d e = absurd (cc)
not_chosen false x d e = refl

module _ (d : DeskRecord) (g : IsGoodDesk d) (pass client : ℕ) (named : client < d.clients) where
  -- ---- none is admitted
  module _ (o : Offer) (r : Reply) (by : r ≡ offered_reply (map plain_job d.jobs) d.closed client (offer_note o)) (not_in : is_admitted r ≡ false) (same : admitted_jobs d.jobs client o r ≡ d.jobs) where
    e : Entry
    e = record { pass = pass; event = event.Submit client (offer_note o); reply = r }

    stays : plain_of (submitted_desk d pass client o r) ≡ plain_of d
    unfolding e
    stays = λ i. record { clients = d.clients; jobs = map plain_job (same i); batches = map plain_batch d.batches; registered = registered_same d.entries e refl i; closed = d.closed }

    no_pie_then : (b : Bool) (p : PieRecord) → b ≡ false → cond b (Some p) None ≡ None
    no_pie_then true p is = absurd (cc)
    no_pie_then false p is = refl

    has_none : (b : Bool) (p : PieRecord) → b ≡ false → HasItsPie b (cond b (Some p) None) (event.Submit client (offer_note o))
    has_none true p is = absurd (cc)
    has_none false p is = refl

    refused : Outcome d pass client o r
    unfolding e reply_to after_event
    refused = record {
      turn = record {
        replies = by;
        becomes = stays ∙ sym (not_chosen _ _ (plain_of d) (ap is_admitted (sym by) ∙ not_in));
        journal = ap (λ (js : List Job). full_entries (d.entries ++ e ∷ []) (pies_of js)) same ∙ (full_same d.entries e (pies_of d.jobs) not_in
            ∙ ap (λ (p : Option PieRecord). journal_of d ++ record { entry = e; pie = p } ∷ []) (sym (no_pie_then (is_admitted r) (pie_of o) not_in)));
        turns = refl;
        clients = refl;
        certs = certs_same d.batches None;
      };
      has = has_none (is_admitted r) (pie_of o) not_in;
      left = record {
        accepted = subst (All IsAcceptedJob) (sym same) g.accepted;
        certs = subst (λ (js : List Job). All (KeepsCert js) d.batches) (sym same) g.certs;
        registry = g.registry ∙ ap registry_of (sym stays);
        counts = admitted_more d.entries e ∙ (rw not_in (omega (arith, g.counts)) ∙ ap length (sym same));
      };
    }

  -- ---- one is
  module _ (c : CheckedRecord) (acc : AcceptedWith c.pie c.fact c.states) (k : ℕ) (by : reply.Admitted k ≡ offered_reply (map plain_job d.jobs) d.closed client (offer_note (offer.Accepted c))) where
    f : Entry
    f = record { pass = pass; event = event.Submit client (offer_note (offer.Accepted c)); reply = reply.Admitted k }

    number : k ≡ length (jobs_of client (map plain_job d.jobs))
    number = next_number (map plain_job d.jobs) d.closed client k (shape_of c.pie) by

    new_job : Job
    new_job = record { client = client; number = k; checked = c }

    grows : plain_of (submitted_desk d pass client (offer.Accepted c) (reply.Admitted k)) ≡ with_job (plain_of d) client c.pie
    unfolding f new_job
    grows =
        let jobs : map plain_job (d.jobs ++ new_job ∷ []) ≡ map plain_job d.jobs ++ record { client = client; number = length (jobs_of client (map plain_job d.jobs)); pie = c.pie } ∷ [] =
        map-append plain_job d.jobs (new_job ∷ []) ∙ ap (λ (n : ℕ). map plain_job d.jobs ++ record { client = client; number = n; pie = c.pie } ∷ []) number in
        λ i. record { clients = d.clients; jobs = jobs i; batches = map plain_batch d.batches; registered = registered_same d.entries f refl i; closed = d.closed }

    still_cert : (b : Batch) → IsBatchOf (map plain_job d.jobs) (plain_batch b) → KeepsCert d.jobs b → KeepsCert (d.jobs ++ new_job ∷ []) b
    still_cert b is h =
        let same : tasks_in (d.jobs ++ new_job ∷ []) b ≡ tasks_in d.jobs b =
        ap (map (λ (j : Job). j.checked)) (stretch_more b.count b.first d.jobs (new_job ∷ []) (omega (arith, is.within, length-map d.jobs plain_job))) in
        record {
          has = λ at. subst (λ (tasks : List CheckedRecord). HasCert tasks b) (sym same) (h.has at);
          has_none = h.has_none;
        }

    still_certs : (bs : List Batch) → All (IsBatchOf (map plain_job d.jobs)) (map plain_batch bs) → All (KeepsCert d.jobs) bs → All (KeepsCert (d.jobs ++ new_job ∷ [])) bs
    still_certs [] are all = All-nil (KeepsCert (d.jobs ++ new_job ∷ []))
    still_certs (b ∷ bs) are all =
        All-cons (KeepsCert (d.jobs ++ new_job ∷ [])) b bs
        (still_cert b (All-head (IsBatchOf (map plain_job d.jobs)) (plain_batch b) (map plain_batch bs) are) (All-head (KeepsCert d.jobs) b bs all))
        (still_certs bs (All-tail (IsBatchOf (map plain_job d.jobs)) (plain_batch b) (map plain_batch bs) are) (All-tail (KeepsCert d.jobs) b bs all))

    was_admitted : Outcome d pass client (offer.Accepted c) (reply.Admitted k)
    unfolding f new_job reply_to after_event
    was_admitted = record {
      turn = record {
        replies = by;
        becomes = grows ∙ ap (λ (q : Reply). cond (is_admitted q) (with_job (plain_of d) client c.pie) (plain_of d)) by;
        journal = ap (full_entries (d.entries ++ f ∷ [])) (map-append (λ (j : Job). j.checked.pie) d.jobs (new_job ∷ []))
            ∙ full_new d.entries f (pies_of d.jobs) c.pie (g.counts ∙ sym (length-map d.jobs (λ (j : Job). j.checked.pie))) refl;
        turns = refl;
        clients = refl;
        certs = certs_same d.batches None;
      };
      has = (c.pie, refl, (refl, fact_is c.pie c.fact acc.shows));
      left = record {
        accepted = All-push IsAcceptedJob d.jobs new_job g.accepted acc;
        certs = still_certs d.batches g.sound.batches g.certs;
        registry = g.registry ∙ (ap (with_facts []) (sym (facts_with_job (plain_of d) g.sound _)) ∙ ap registry_of (sym grows));
        counts = admitted_more d.entries f ∙ (omega (arith, g.counts, length-append d.jobs (new_job ∷ [])));
      };
    }

  outcome : (o : Offer) (r : Reply) → AcceptedOffer o → r ≡ offered_reply (map plain_job d.jobs) d.closed client (offer_note o) → Outcome d pass client o r
  outcome (offer.Refused x) r acc by = subst (Outcome d pass client (offer.Refused x)) (sym by) (refused (offer.Refused x) (reply.Refused x) refl refl refl)
  outcome (offer.Accepted c) (reply.Admitted k) acc by = was_admitted c acc k by
  outcome (offer.Accepted c) r acc by = refused (offer.Accepted c) r by refl refl

  module _ (o : Offer) (r : Reply) (acc : AcceptedOffer o) (by : r ≡ offered_reply (map plain_job d.jobs) d.closed client (offer_note o)) where
    pub submit_turn : IsTurn d (submitted_desk d pass client o r) pass (event.Submit client (offer_note o)) (pie_of o) r
    submit_turn = (outcome o r acc by).turn

    pub submit_good : IsGoodDesk (submitted_desk d pass client o r)
    submit_good =
        let all = outcome o r acc by in
        good_after d (submitted_desk d pass client o r) g pass (event.Submit client (offer_note o)) (pie_of o) r all.turn named all.has all.left.accepted all.left.certs all.left.registry all.left.counts

-- by what the calls left
pub record Submitted (d : DeskRecord) (pass client : ℕ) (o : Offer) (r : Reply) (new : DeskRecord) (usages : List Usage) (places : List (Option ℕ)) (batched next : ℕ) : Type 0 where
  pub kept : IsKept new usages places batched next
  pub turn : IsTurn d new pass (event.Submit client (offer_note o)) (pie_of o) r

pub submitted_leaves : (d : DeskRecord) (pass client : ℕ) (o : Offer) (r : Reply) (n : OfferNote) (u : Usage) (usages usages' : List Usage) (places places' : List (Option ℕ)) (batched next : ℕ) (jobs : List Job) (entries : List Entry)
    → IsKept d usages places batched next → client < d.clients → AcceptedOffer o → n ≡ offer_note o → Some u ≡ slice_get usages client → r ≡ reply_by_usage u d.closed n
    → usages' ≡ slice_set usages client (used_after u n r) → places' ≡ places_after places client n r (length d.jobs)
    → jobs ≡ admitted_jobs d.jobs client o r → entries ≡ d.entries ++ record { pass = pass; event = event.Submit client n; reply = r } ∷ []
    → Submitted d pass client o r (record d { jobs = jobs; entries = entries; turns = (d.turns + 1) % 2 ^ 64 }) usages' places' batched next
submitted_leaves d pass client o r n u usages usages' places places' batched next jobs entries k named acc n_is u_is by usages_are places_are jobs_is entries_is =
    let own : u ≡ usage_of (shapes_of client (map plain_job d.jobs)) = some_same (u_is ∙ k.are_usages client named) in
    let by' : r ≡ offered_reply (map plain_job d.jobs) d.closed client (offer_note o) = by ∙ ((λ i. reply_by_usage (own i) d.closed (n_is i)) ∙ by_usage (map plain_job d.jobs) d.closed client (offer_note o)) in
    let es : entries ≡ d.entries ++ record { pass = pass; event = event.Submit client (offer_note o); reply = r } ∷ [] =
    entries_is ∙ ap (λ (x : OfferNote). d.entries ++ record { pass = pass; event = event.Submit client x; reply = r } ∷ []) n_is in
    let same : submitted_desk d pass client o r ≡ record d { jobs = jobs; entries = entries; turns = (d.turns + 1) % 2 ^ 64 } =
    λ i. record d { jobs = sym jobs_is i; entries = sym es i; turns = (d.turns + 1) % 2 ^ 64 } in
    let set : usages' ≡ slice_set usages client (used_after (usage_of (shapes_of client (map plain_job d.jobs))) (offer_note o) r) = usages_are ∙ (λ i. slice_set usages client (used_after (own i) (n_is i) r)) in
    subst (λ (new : DeskRecord). Submitted d pass client o r new usages' places' batched next) same
    (record {
      kept = record {
        good = submit_good d k.good pass client named o r acc by';
        are_usages = usages_kept d usages usages' client named k.are_usages o r set;
        are_places = places_kept d k.good places k.are_places client named places' o r by' (places_are ∙ ap (λ (x : OfferNote). places_after places client x r (length d.jobs)) n_is);
        is_batched = k.is_batched;
        is_next = k.is_next;
      };
      turn = submit_turn d k.good pass client named o r acc by';
    })

-- what the code needs of a usage
pub small_usage : (d : DeskRecord) (usages : List Usage) (places : List (Option ℕ)) (batched next client : ℕ) (u : Usage) → IsKept d usages places batched next → client < d.clients → Some u ≡ slice_get usages client → IsSmallUsage u
small_usage d usages places batched next client u k named is =
    subst IsSmallUsage (sym (some_same (is ∙ k.are_usages client named))) (usage_small d k.good client)

-- the table has a place for what the reply admits
pub place_there : (d : DeskRecord) (usages : List Usage) (places : List (Option ℕ)) (batched next client : ℕ) (u : Usage) (n : OfferNote) (r : Reply) → IsKept d usages places batched next → client < d.clients
    → Some u ≡ slice_get usages client → r ≡ reply_by_usage u d.closed n → HasPlace places client n r
place_there d usages places batched next client u n r k named is by =
    let own : u ≡ usage_of (shapes_of client (map plain_job d.jobs)) = some_same (is ∙ k.are_usages client named) in
    has_place d k.good places k.are_places client named n r (by ∙ (ap (λ (x : Usage). reply_by_usage x d.closed n) own ∙ by_usage (map plain_job d.jobs) d.closed client n))
