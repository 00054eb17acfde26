-- Lists of events, journals, and which journals are legal.
use Rattle.std.specs.Prelude.{◌≡◌, ℕ, ◌≤◌, ◌<◌, Bool, true, false, List, [], ◌∷◌, ◌++◌, map, Option, Some, None, unwrap_or}
use Rattle.cairo_model.specs.Pie.Records.{PieRecord}
use Rattle.cairo_model.specs.Pie.Shapes.{shape_of}
use Rattle.desk_core.specs.Desks.{PlainDesk, empty_desk}
use Rattle.desk_core.specs.Limits.{most_clients}
use Rattle.cairo_model.specs.Pie.Facts.{fact_of}
use Rattle.desk_core.specs.Quotas.{is_admitted}
use Rattle.desk_core.specs.Next.{reply_to, after_event}
use Rattle.desk_core.specs.declared.entry.FullEntry.{FullEntry}
use Rattle.desk_core.specs.declared.event.Event.{Event}
use Rattle.desk_core.specs.declared.event.Event.TheVariants as event
use Rattle.desk_core.specs.declared.event.OfferNote.{OfferNote}
use Rattle.desk_core.specs.declared.event.OfferNote.TheVariants as note
use Rattle.desk_core.specs.declared.reply.Reply.{Reply}

-- an event with the pass that makes it, and the PIE that goes with it where it is an offer
pub record Move : Type 0 where
  pub pass : ℕ
  pub event : Event
  pub pie : PieRecord

abbrev pub no_pie : PieRecord
no_pie = record { main = 0; steps = 0; sizes = []; cells = [] }

abbrev pub move_of : FullEntry → Move
move_of e = record { pass = e.entry.pass; event = e.entry.event; pie = unwrap_or e.pie no_pie }

abbrev pub reply_at : PlainDesk → Move → Reply
reply_at d m = reply_to d m.pass m.event

abbrev pub after_move : PlainDesk → Move → PlainDesk
after_move d m = after_event d m.pass m.event m.pie

-- the desk after all of them, from this one on
abbrev pub played : PlainDesk → List Move → PlainDesk
played d [] = d
played d (m ∷ ms) = played (after_move d m) ms

-- the offer is of the PIE's shape, with its fact
abbrev pub IsNoteOf : PieRecord → OfferNote → Type 0
IsNoteOf pie (note.Accepted shape fact) = (shape ≡ shape_of pie) × (fact ≡ fact_of pie)
IsNoteOf pie (note.Refused r) = Unit {0}

abbrev pub IsOfferOf : PieRecord → Event → Type 0
IsOfferOf pie (event.Submit client n) = IsNoteOf pie n
IsOfferOf pie event.Seal = Unit {0}
IsOfferOf pie event.Take = Unit {0}
IsOfferOf pie (event.Register b differs) = Unit {0}
IsOfferOf pie (event.GiveBack b) = Unit {0}
IsOfferOf pie (event.Ask client fact) = Unit {0}
IsOfferOf pie (event.Status client number) = Unit {0}
IsOfferOf pie event.Close = Unit {0}

-- the client that an event names is one of them
abbrev pub NamesClient : ℕ → Event → Type 0
NamesClient clients (event.Submit client n) = client < clients
NamesClient clients event.Seal = Unit {0}
NamesClient clients event.Take = Unit {0}
NamesClient clients (event.Register b differs) = Unit {0}
NamesClient clients (event.GiveBack b) = Unit {0}
NamesClient clients (event.Ask client fact) = client < clients
NamesClient clients (event.Status client number) = client < clients
NamesClient clients event.Close = Unit {0}

-- an entry has a PIE exactly where its reply is that it was admitted, and the offer is then of this PIE
abbrev pub HasItsPie : Bool → Option PieRecord → Event → Type 0
HasItsPie true o e = (pie : PieRecord) × (o ≡ Some pie) × IsOfferOf pie e
HasItsPie false o e = o ≡ None

-- At this desk the entry has the reply of Next, and names a client that there is.
pub record Follows (d : PlainDesk) (e : FullEntry) : Type 0 where
  pub replies : e.entry.reply ≡ reply_at d (move_of e)
  pub names : NamesClient d.clients e.entry.event
  pub has_pie : HasItsPie (is_admitted e.entry.reply) e.pie e.entry.event

abbrev pub AllFollow : PlainDesk → List FullEntry → Type 0
AllFollow d [] = Unit {0}
AllFollow d (e ∷ es) = Follows d e × AllFollow (after_move d (move_of e)) es

-- Going through the entries from the empty desk gives each kept reply, and leads to this desk.
pub record IsLegal (journal : List FullEntry) (d : PlainDesk) : Type 0 where
  pub some_clients : 1 ≤ d.clients
  pub few_clients : d.clients ≤ most_clients
  pub follow : AllFollow (empty_desk d.clients) journal
  pub ends : played (empty_desk d.clients) (map move_of journal) ≡ d

abbrev pub LegalIsKept : Type 0
LegalIsKept = (journal : List FullEntry) (d : PlainDesk) (e : FullEntry) → IsLegal journal d → Follows d e → IsLegal (journal ++ e ∷ []) (after_move d (move_of e))
