-- What the calls of a desk do to it.
use Rattle.std.specs.Prelude.{ℕ, ◌≡◌, ◌≢◌, ◌+◌, ◌%◌, ◌^◌, false, List, [], ◌∷◌, ◌++◌, map, slice_get, Option, Some, None, option_map, if◌then◌else◌}
use Rattle.cairo_model.specs.Certificate.Records.{CertRecord}
use Rattle.cairo_model.specs.Pie.Records.{PieRecord}
use Rattle.cairo_model.specs.Pie.Shapes.{shape_of}
use Rattle.boot_program.specs.Batch.Parcels.{ParcelRecord}
use Rattle.desk_core.specs.DeskRecords.{DeskRecord, journal_of, plain_of, registers_at, tasks_at}
use Rattle.desk_core.specs.Isolation.{IsIsolated, answered_of}
use Rattle.desk_core.specs.Journals.{no_pie}
use Rattle.desk_core.specs.Next.{after_event, reply_to}
use Rattle.desk_core.specs.Quotas.{is_admitted}
use Rattle.desk_core.specs.declared.batch.Batch.{Batch}
use Rattle.desk_core.specs.declared.entry.FullEntry.{FullEntry}
use Rattle.desk_core.specs.declared.event.Event.{Event}
use Rattle.desk_core.specs.declared.event.OfferNote.{OfferNote}
use Rattle.desk_core.specs.declared.event.OfferNote.TheVariants as note
use Rattle.desk_core.specs.declared.offer.Offer.{Offer}
use Rattle.desk_core.specs.declared.offer.Offer.TheVariants as offer
use Rattle.desk_core.specs.declared.reply.Reply.{Reply}
use Rattle.desk_core.specs.declared.reply.Reply.TheVariants as reply

abbrev pub IsNewDesk : ℕ → DeskRecord → Type 0
IsNewDesk clients d = d ≡ record { clients = clients; jobs = []; batches = []; registry = []; entries = []; closed = false; turns = 0 }

-- one turn more, and nothing else
abbrev pub turned : DeskRecord → DeskRecord
turned d = record d { turns = (d.turns + 1) % 2 ^ 64 }

-- the full entry of an event
abbrev pub entry_of : ℕ → Event → PieRecord → Reply → FullEntry
entry_of pass e pie r = record { entry = record { pass = pass; event = e; reply = r }; pie = if is_admitted r then Some pie else None }

-- what the batch of this number keeps as its certificate, where there is such a batch
abbrev pub cert_at : List Batch → ℕ → Option (Option CertRecord)
cert_at batches b = option_map (λ x. x.cert) (slice_get batches b)

-- each batch that there was keeps the certificate that it had, or has none as before, but for the one that is registered
abbrev pub CertsStay : List Batch → List Batch → Option ℕ → Type 0
CertsStay old new registered = (b : ℕ) (x : Batch) → slice_get old b ≡ Some x → registered ≢ Some b → cert_at new b ≡ Some x.cert

-- One event: the reply and the desk are those of Next, the journal has one entry more, under the pass's number, and no certificate
-- is exchanged or taken away.
pub record IsTurn (old new : DeskRecord) (pass : ℕ) (e : Event) (pie : PieRecord) (r : Reply) : Type 0 where
  pub replies : r ≡ reply_to (plain_of old) pass e
  pub becomes : plain_of new ≡ after_event (plain_of old) pass e pie
  pub journal : journal_of new ≡ journal_of old ++ entry_of pass e pie r ∷ []
  pub turns : new.turns ≡ (old.turns + 1) % 2 ^ 64
  pub clients : new.clients ≡ old.clients
  pub certs : CertsStay old.batches new.batches (registers_at e r)

-- what the journal keeps of an offer, and the offer's PIE
abbrev pub offer_note : Offer → OfferNote
offer_note (offer.Accepted checked) = note.Accepted (shape_of checked.pie) checked.fact
offer_note (offer.Refused r) = note.Refused r

abbrev pub pie_of : Offer → PieRecord
pie_of (offer.Accepted checked) = checked.pie
pie_of (offer.Refused r) = no_pie

-- the parcel that goes out with a reply: the tasks of the batch that was taken
abbrev pub handed_out : DeskRecord → Reply → Option ParcelRecord
handed_out d (reply.TakenBatch b) = Some (record { batch = b; tasks = tasks_at d b })
handed_out d r = None

-- each client's replies in the desk's journal are those that its own offers alone determine
abbrev pub JournalIsIsolated : DeskRecord → Type 0
JournalIsIsolated d = IsIsolated (map answered_of (journal_of d))
