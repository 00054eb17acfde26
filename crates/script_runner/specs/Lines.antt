-- The lines of a script, and what the entries of a journal have to do with them (docs/SERVICE.md).
use Rattle.std.specs.Prelude.{ℕ, ◌≡◌, ◌==◌, Bool, true, false, List, [], ◌∷◌, ◌++◌, All, filter}
use Rattle.batch_workers.specs.Works.{EndIdle, IsWorkOf}
use Rattle.desk_core.specs.Turns.{entry_of, offer_note, pie_of}
use Rattle.desk_core.specs.declared.entry.FullEntry.{FullEntry}
use Rattle.desk_core.specs.declared.event.Event.{Event}
use Rattle.desk_core.specs.declared.event.Event.TheVariants as event
use Rattle.desk_core.specs.declared.offer.Offer.{Offer}
use Rattle.desk_script.specs.Lines.{ScriptLine, asks, asks_status, settles, submits}
use Rattle.session_desk.specs.Offers.{OffersBytes}

-- ---- lines

-- whose line it is
abbrev pub line_client : ScriptLine → ℕ
line_client (submits client bytes) = client
line_client (asks client fact) = client
line_client (asks_status client number) = client
line_client (settles client) = client

-- a client's lines, in order
abbrev pub client_lines : ℕ → List ScriptLine → List ScriptLine
client_lines client lines = filter (λ l. line_client l == client) lines

-- whether the line asks the desk for a reply of its own: each does but one that settles
abbrev pub is_request_line : ScriptLine → Bool
is_request_line (submits client bytes) = true
is_request_line (asks client fact) = true
is_request_line (asks_status client number) = true
is_request_line (settles client) = false

-- ---- entries

-- those under a pass's number
abbrev pub entries_under : ℕ → List FullEntry → List FullEntry
entries_under pass es = filter (λ e. e.entry.pass == pass) es

-- whether it is one of the three kinds of event that a client makes
abbrev pub is_request : Event → Bool
is_request (event.Submit client n) = true
is_request event.Seal = false
is_request event.Take = false
is_request (event.Register b differs) = false
is_request (event.GiveBack b) = false
is_request (event.Ask client fact) = true
is_request (event.Status client number) = true
is_request event.Close = false

abbrev pub requests_in : List FullEntry → List FullEntry
requests_in es = filter (λ e. is_request e.entry.event) es

-- ---- the entries of a line

-- The entry hands in an offer of these bytes, under the client's own pass: it has the offer's note, and where a job was admitted
-- the PIE of the bytes.
pub record HandsIn (client : ℕ) (bytes : List ℕ) (e : FullEntry) : Type 0 where
  pub offer : Offer
  pub of_bytes : OffersBytes bytes offer
  pub entry : e ≡ entry_of client (event.Submit client (offer_note offer)) (pie_of offer) e.entry.reply

-- an entry of this event, under this pass
pub record IsEventUnder (pass : ℕ) (what : Event) (e : FullEntry) : Type 0 where
  pub own : e.entry.pass ≡ pass
  pub event : e.entry.event ≡ what

-- the entry is what the line asked for
abbrev pub IsEntryOf : ScriptLine → FullEntry → Type 0
IsEntryOf (submits client bytes) e = HandsIn client bytes e
IsEntryOf (asks client fact) e = IsEventUnder client (event.Ask client fact) e
IsEntryOf (asks_status client number) e = IsEventUnder client (event.Status client number) e
IsEntryOf (settles client) e = ⊥

-- these are that one entry
pub record IsOneEntryOf (line : ScriptLine) (es : List FullEntry) : Type 0 where
  pub one : FullEntry
  pub are : es ≡ one ∷ []
  pub of_line : IsEntryOf line one

-- a pass's work, which ends where no batch is sealed and then no job waits
pub record Settles (pass : ℕ) (es : List FullEntry) : Type 0 where
  pub works : All (IsWorkOf pass) es
  pub ends : EndIdle pass es

-- these are the entries that its client's pass makes for the line
abbrev pub DoesLine : ScriptLine → List FullEntry → Type 0
DoesLine (submits client bytes) es = IsOneEntryOf (submits client bytes) es
DoesLine (asks client fact) es = IsOneEntryOf (asks client fact) es
DoesLine (asks_status client number) es = IsOneEntryOf (asks_status client number) es
DoesLine (settles client) es = Settles client es

-- for these lines, one after another
abbrev pub DoesLines : List ScriptLine → List FullEntry → Type 0
DoesLines [] es = es ≡ []
DoesLines (l ∷ ls) es = (front : List FullEntry) × (rest : List FullEntry) × (es ≡ front ++ rest) × DoesLine l front × DoesLines ls rest
