-- What each line does to the desk.
use Rattle.std.proofs.Common.{◌≡◌, ℕ, Bool, true, false, cond, List, [], ◌∷◌, refl, sym, ap, ◌∙◌}
use Rattle.std.specs.Option.{option_map_or}
use Rattle.std.specs.Prelude.{slice_get}
use Rattle.cairo_model.specs.Pie.Acceptance.{FactRecord}
use Rattle.cairo_model.specs.Pie.Records.{PieRecord}
use Rattle.batch_workers.specs.Works.{is_work}
use Rattle.desk_core.specs.DeskRecords.{DeskRecord, plain_of}
use Rattle.desk_core.specs.Desks.{PlainBatch, PlainDesk}
use Rattle.desk_core.specs.Journals.{no_pie}
use Rattle.desk_core.specs.Next.{after_event, submit_reply, with_job}
use Rattle.desk_core.specs.Quotas.{is_admitted}
use Rattle.desk_core.specs.Turns.{IsTurn, entry_of, offer_note, pie_of}
use Rattle.desk_core.specs.declared.event.Event.{Event}
use Rattle.desk_core.specs.declared.event.Event.TheVariants as event
use Rattle.desk_core.specs.declared.offer.Offer.{Offer}
use Rattle.desk_core.specs.declared.phase.Phase.TheVariants as phase
use Rattle.desk_core.specs.declared.reply.Reply.{Reply}
use Rattle.desk_script.specs.Lines.{asks, asks_status, submits}
use Rattle.session_desk.specs.Offers.{OffersBytes}
use Rattle.script_runner.specs.Working.Doing.{DidLine, NoneTaken}

-- ---- batches stay where they are

either_has : (b : Bool) (x y : PlainDesk) (batches : List PlainBatch) → x.batches ≡ batches → y.batches ≡ batches → (cond b x y).batches ≡ batches
either_has true x y batches p q = p
either_has false x y batches p q = q

batches_stay : (d : PlainDesk) (pass : ℕ) (what : Event) (pie : PieRecord) → is_work what ≡ false → (after_event d pass what pie).batches ≡ d.batches
unfolding after_event
batches_stay d pass (event.Submit client n) pie is = either_has (is_admitted (submit_reply d client n)) (with_job d client pie) d d.batches refl refl
batches_stay d pass event.Seal pie is = absurd (cc)
batches_stay d pass event.Take pie is = absurd (cc)
batches_stay d pass (event.Register b differs) pie is = absurd (cc)
batches_stay d pass (event.GiveBack b) pie is = absurd (cc)
batches_stay d pass (event.Ask client fact) pie is = refl
batches_stay d pass (event.Status client number) pie is = refl
batches_stay d pass event.Close pie is = refl

still_free : (d d' : PlainDesk) → d'.batches ≡ d.batches → NoneTaken d → NoneTaken d'
still_free d d' same free b pass is = free b pass (sym (ap (λ (bs : List PlainBatch). option_map_or (λ (x : PlainBatch). x.phase) (slice_get bs b) phase.NoBatch) same) ∙ is)

pub free_after : (old new : DeskRecord) (pass : ℕ) (what : Event) (pie : PieRecord) (r : Reply) → is_work what ≡ false → IsTurn old new pass what pie r → NoneTaken (plain_of old) → NoneTaken (plain_of new)
free_after old new pass what pie r is turn free = still_free (plain_of old) (plain_of new) (ap (λ (d : PlainDesk). d.batches) turn.becomes ∙ batches_stay (plain_of old) pass what pie is) free

-- ---- lines

pub submitted : (client : ℕ) (bytes : List ℕ) (old new : DeskRecord) (o : Offer) (r : Reply) → OffersBytes bytes o → IsTurn old new client (event.Submit client (offer_note o)) (pie_of o) r
    → NoneTaken (plain_of old) → DidLine (submits client bytes) old new
submitted client bytes old new o r offers turn free = record {
  more = entry_of client (event.Submit client (offer_note o)) (pie_of o) r ∷ [];
  journal = turn.journal;
  does = record {
    one = entry_of client (event.Submit client (offer_note o)) (pie_of o) r;
    are = refl;
    of_line = record { offer = o; of_bytes = offers; entry = refl };
  };
  settled = tt;
  clients = turn.clients;
  free = free_after old new client (event.Submit client (offer_note o)) (pie_of o) r refl turn free;
}

pub asked : (client : ℕ) (fact : FactRecord) (old new : DeskRecord) (r : Reply) → IsTurn old new client (event.Ask client fact) no_pie r → NoneTaken (plain_of old) → DidLine (asks client fact) old new
asked client fact old new r turn free = record {
  more = entry_of client (event.Ask client fact) no_pie r ∷ [];
  journal = turn.journal;
  does = record { one = entry_of client (event.Ask client fact) no_pie r; are = refl; of_line = record { own = refl; event = refl } };
  settled = tt;
  clients = turn.clients;
  free = free_after old new client (event.Ask client fact) no_pie r refl turn free;
}

pub asked_status : (client number : ℕ) (old new : DeskRecord) (r : Reply) → IsTurn old new client (event.Status client number) no_pie r → NoneTaken (plain_of old) → DidLine (asks_status client number) old new
asked_status client number old new r turn free = record {
  more = entry_of client (event.Status client number) no_pie r ∷ [];
  journal = turn.journal;
  does = record { one = entry_of client (event.Status client number) no_pie r; are = refl; of_line = record { own = refl; event = refl } };
  settled = tt;
  clients = turn.clients;
  free = free_after old new client (event.Status client number) no_pie r refl turn free;
}
