-- What holds of a desk that served a script, in whatever order its clients' lines came (docs/SERVICE.md).
use Rattle.std.specs.Prelude.{ℕ, ◌≡◌, ◌<◌, true, List, [], ◌∷◌, All, filter, filter_map, Option, Some, None, option_map}
use Rattle.std.specs.List.{AllZip}
use Rattle.batch_workers.specs.Works.{AllRegistered}
use Rattle.desk_core.specs.DeskRecords.{DeskRecord, journal_of, plain_of}
use Rattle.desk_core.specs.Quotas.{own_verdict}
use Rattle.desk_core.specs.Turns.{offer_note}
use Rattle.desk_core.specs.declared.entry.FullEntry.{FullEntry}
use Rattle.desk_core.specs.declared.event.Event.{Event}
use Rattle.desk_core.specs.declared.event.Event.TheVariants as event
use Rattle.desk_core.specs.declared.event.OfferNote.{OfferNote}
use Rattle.desk_core.specs.declared.offer.Offer.{Offer}
use Rattle.desk_core.specs.declared.reply.Reply.{Reply}
use Rattle.desk_script.specs.Lines.{ScriptLine, asks, asks_status, settles, submits}
use Rattle.desk_script.specs.OwnLines.{AreOwnLines, submit_lines}
use Rattle.session_desk.specs.Offers.{OffersBytes}
use Rattle.script_runner.specs.Lines.{DoesLines, IsEntryOf, client_lines, entries_under, is_request, is_request_line, requests_in}

-- ---- lines

-- Each client's pass did that client's lines and nothing else, its requests are exactly theirs in order, and no other pass made one.
pub record ServesLines (clients : ℕ) (lines : List ScriptLine) (journal : List FullEntry) : Type 0 where
  pub each : (c : ℕ) → c < clients → DoesLines (client_lines c lines) (entries_under c journal)
  pub exactly : (c : ℕ) → c < clients → AllZip IsEntryOf (filter is_request_line (client_lines c lines)) (requests_in (entries_under c journal))
  pub others : All (λ e. is_request e.entry.event ≡ true → e.entry.pass < clients) journal

-- ---- a client's own verdict

-- the note of an offer of these bytes
pub record IsNoteOfBytes (bytes : List ℕ) (n : OfferNote) : Type 0 where
  pub offer : Offer
  pub of_bytes : OffersBytes bytes offer
  pub note : n ≡ offer_note offer

-- the notes of what these lines hand in, in order
abbrev pub AreNotesOf : List ScriptLine → List OfferNote → Type 0
AreNotesOf [] ns = ns ≡ []
AreNotesOf (submits client bytes ∷ ls) ns = (n : OfferNote) × (rest : List OfferNote) × (ns ≡ n ∷ rest) × IsNoteOfBytes bytes n × AreNotesOf ls rest
AreNotesOf (asks client fact ∷ ls) ns = AreNotesOf ls ns
AreNotesOf (asks_status client number ∷ ls) ns = AreNotesOf ls ns
AreNotesOf (settles client ∷ ls) ns = AreNotesOf ls ns

-- what an event hands in
abbrev pub handed_note : Event → Option OfferNote
handed_note (event.Submit client n) = Some n
handed_note event.Seal = None
handed_note event.Take = None
handed_note (event.Register b differs) = None
handed_note (event.GiveBack b) = None
handed_note (event.Ask client fact) = None
handed_note (event.Status client number) = None
handed_note event.Close = None

-- the replies to all that these entries hand in, in order
abbrev pub handed_replies : List FullEntry → List Reply
handed_replies es = filter_map (λ e. option_map (λ _. e.entry.reply) (handed_note e.entry.event)) es

-- They are those that the lines of this one client determine by themselves.
pub record RepliesByItself (lines : List ScriptLine) (es : List FullEntry) : Type 0 where
  pub notes : List OfferNote
  pub of_lines : AreNotesOf lines notes
  pub replies : handed_replies es ≡ own_verdict notes

-- ---- the desk

-- The desk is closed, its journal is that of the clients' lines, every admitted job is in a registered batch, and what each client
-- was replied, as entries and as lines of the transcript, is as its own lines determine by themselves.
pub record ServesScript (clients : ℕ) (lines : List ScriptLine) (d : DeskRecord) : Type 0 where
  pub count : d.clients ≡ clients
  pub closed : d.closed ≡ true
  pub served : ServesLines clients lines (journal_of d)
  pub registered : AllRegistered (plain_of d)
  pub isolated : (c : ℕ) → c < clients → RepliesByItself (client_lines c lines) (entries_under c (journal_of d))
  pub texts : (c : ℕ) → c < clients → AreOwnLines c lines (submit_lines c d.entries)
