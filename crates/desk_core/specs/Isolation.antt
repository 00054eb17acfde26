-- Isolation: no client's submissions change another's replies.
use Rattle.std.specs.Prelude.{◌≡◌, ℕ, ◌==◌, Bool, true, false, List, [], ◌∷◌, map, Option, Some, None, option_map, if◌then◌else◌}
use Rattle.std.specs.List.{cons_option}
use Rattle.cairo_model.specs.Pie.Records.{PieRecord}
use Rattle.cairo_model.specs.Pie.Shapes.{shape_of}
use Rattle.desk_core.specs.Desks.{PlainDesk, empty_desk}
use Rattle.desk_core.specs.Journals.{Move, reply_at, after_move, IsLegal}
use Rattle.desk_core.specs.Quotas.{is_admitted, own_verdict}
use Rattle.desk_core.specs.declared.entry.FullEntry.{FullEntry}
use Rattle.desk_core.specs.declared.event.Event.{Event}
use Rattle.desk_core.specs.declared.event.Event.TheVariants as event
use Rattle.desk_core.specs.declared.event.OfferNote.{OfferNote}
use Rattle.desk_core.specs.declared.event.OfferNote.TheVariants as note
use Rattle.desk_core.specs.declared.reply.Reply.{Reply}

-- an event and the reply to it
pub record Answered : Type 0 where
  pub event : Event
  pub reply : Reply

abbrev pub answered_of : FullEntry → Answered
answered_of e = record { event = e.entry.event; reply = e.entry.reply }

-- what this client offered at the event, if the event is an offer of its own
abbrev pub offered_by : ℕ → Event → Option OfferNote
offered_by c (event.Submit client n) = if client == c then Some n else None
offered_by c event.Seal = None
offered_by c event.Take = None
offered_by c (event.Register b differs) = None
offered_by c (event.GiveBack b) = None
offered_by c (event.Ask client fact) = None
offered_by c (event.Status client number) = None
offered_by c event.Close = None

abbrev pub is_close : Event → Bool
is_close (event.Submit client n) = false
is_close event.Seal = false
is_close event.Take = false
is_close (event.Register b differs) = false
is_close (event.GiveBack b) = false
is_close (event.Ask client fact) = false
is_close (event.Status client number) = false
is_close event.Close = true

-- what the client offered before the first close, and the replies to that
abbrev pub offers_of : ℕ → List Answered → List OfferNote
offers_of c [] = []
offers_of c (a ∷ rest) = if is_close a.event then [] else cons_option (offered_by c a.event) (offers_of c rest)

abbrev pub replies_of : ℕ → List Answered → List Reply
replies_of c [] = []
replies_of c (a ∷ rest) = if is_close a.event then [] else cons_option (option_map (λ _. a.reply) (offered_by c a.event)) (replies_of c rest)

-- each event with the reply that Next gives it
abbrev pub answers : PlainDesk → List Move → List Answered
answers d [] = []
answers d (m ∷ ms) = record { event = m.event; reply = reply_at d m } ∷ answers (after_move d m) ms

-- each client's replies are those that its own offers alone determine
abbrev pub IsIsolated : List Answered → Type 0
IsIsolated xs = (client : ℕ) → replies_of client xs ≡ own_verdict (offers_of client xs)

-- an accepted offer has the PIE's shape
abbrev pub HasShape : PieRecord → OfferNote → Type 0
HasShape pie (note.Accepted shape fact) = shape ≡ shape_of pie
HasShape pie (note.Refused r) = Unit {0}

abbrev pub OffersShape : PieRecord → Event → Type 0
OffersShape pie (event.Submit client n) = HasShape pie n
OffersShape pie event.Seal = Unit {0}
OffersShape pie event.Take = Unit {0}
OffersShape pie (event.Register b differs) = Unit {0}
OffersShape pie (event.GiveBack b) = Unit {0}
OffersShape pie (event.Ask client fact) = Unit {0}
OffersShape pie (event.Status client number) = Unit {0}
OffersShape pie event.Close = Unit {0}

-- each offer that is admitted has the shape of the PIE that goes with it
abbrev pub OfferTheirShapes : PlainDesk → List Move → Type 0
OfferTheirShapes d [] = Unit {0}
OfferTheirShapes d (m ∷ ms) = (is_admitted (reply_at d m) ≡ true → OffersShape m.pie m.event) × OfferTheirShapes (after_move d m) ms

abbrev pub Isolation : Type 0
Isolation = (clients : ℕ) (ms : List Move) → OfferTheirShapes (empty_desk clients) ms → IsIsolated (answers (empty_desk clients) ms)

abbrev pub JournalsAreIsolated : Type 0
JournalsAreIsolated = (journal : List FullEntry) (d : PlainDesk) → IsLegal journal d → IsIsolated (map answered_of journal)
