-- What stays as it is while more happens at a desk: a batch's jobs, a batch in hand, and a registered batch with its facts.
use Rattle.std.specs.Prelude.{◌≡◌, ◌≢◌, ℕ, true, false, List, [], ◌∷◌, ◌++◌, map, Option}
use Rattle.cairo_model.specs.Pie.Acceptance.{FactRecord}
use Rattle.cairo_model.specs.Pie.Records.{PieRecord}
use Rattle.desk_core.specs.Desks.{PlainDesk, empty_desk, phase_at, jobs_at}
use Rattle.desk_core.specs.Hands.{in_hand, entries_of_pass}
use Rattle.desk_core.specs.Journals.{IsLegal, move_of, no_pie, played}
use Rattle.desk_core.specs.Next.{reply_to}
use Rattle.desk_core.specs.RegisteredFacts.{IsShown}
use Rattle.desk_core.specs.Registrations.{IsLeastDifference}
use Rattle.desk_core.specs.Turns.{entry_of}
use Rattle.desk_core.specs.declared.entry.FullEntry.{FullEntry}
use Rattle.desk_core.specs.declared.event.Event.TheVariants as event
use Rattle.desk_core.specs.declared.phase.Phase.TheVariants as phase
use Rattle.desk_core.specs.declared.reply.Reply.TheVariants as reply

-- the desk that these entries lead to
abbrev pub desk_seen : ℕ → List FullEntry → PlainDesk
desk_seen clients seen = played (empty_desk clients) (map move_of seen)

-- the PIEs of the batch of this number, none where there is no such batch
abbrev pub pies_at : PlainDesk → ℕ → List PieRecord
pies_at d b = map (λ j. j.pie) (jobs_at d b)

-- a legal journal leads to the first desk, and with more entries to the second
pub record ContinuesTo (journal more : List FullEntry) (d later : PlainDesk) : Type 0 where
  pub before : IsLegal journal d
  pub after : IsLegal (journal ++ more) later
  pub clients : later.clients ≡ d.clients

-- a batch's jobs don't change
abbrev pub StaysLaw : Type 0
StaysLaw = (journal more : List FullEntry) (d later : PlainDesk) → ContinuesTo journal more d later → (b : ℕ) → phase_at d b ≢ phase.NoBatch → jobs_at later b ≡ jobs_at d b

-- ---- a batch in hand

-- By its own entries a pass has batch b in hand, and by what it has seen the batch has these PIEs.
pub record Holds (clients : ℕ) (seen mine : List FullEntry) (b : ℕ) (pies : List PieRecord) : Type 0 where
  pub has : in_hand b false mine ≡ true
  pub there : phase_at (desk_seen clients seen) b ≢ phase.NoBatch
  pub are : pies_at (desk_seen clients seen) b ≡ pies

-- the entry of a pass that takes batch b
abbrev pub take_entry : ℕ → ℕ → FullEntry
take_entry pass b = entry_of pass event.Take no_pie (reply.TakenBatch b)

-- a pass that takes a batch holds it, with the PIEs that the batch had
abbrev pub TakesLaw : Type 0
TakesLaw = (journal : List FullEntry) (d : PlainDesk) → IsLegal journal d → (pass b : ℕ) → reply_to d pass event.Take ≡ reply.TakenBatch b
    → Holds d.clients (journal ++ take_entry pass b ∷ []) (entries_of_pass pass journal ++ take_entry pass b ∷ []) b (pies_at d b)

-- it holds it while others make entries, whatever it sees of them
abbrev pub HoldsOnLaw : Type 0
HoldsOnLaw = (clients : ℕ) (seen mine more : List FullEntry) (b : ℕ) (pies : List PieRecord) → Holds clients seen mine b pies → Holds clients (seen ++ more) mine b pies

-- whoever holds a batch may register these PIEs for it: neither NotTaken nor Stranger comes
abbrev pub RegistersLaw : Type 0
RegistersLaw = (journal : List FullEntry) (d : PlainDesk) → IsLegal journal d → (pass b : ℕ) (pies : List PieRecord) → Holds d.clients journal (entries_of_pass pass journal) b pies
    → (differs : Option ℕ) → IsLeastDifference pies (pies_at d b) differs → reply_to d pass (event.Register b differs) ≡ reply.Registered

-- whoever has a batch in hand may give it back
abbrev pub ReturnsLaw : Type 0
ReturnsLaw = (journal : List FullEntry) (d : PlainDesk) → IsLegal journal d → (pass b : ℕ) → in_hand b false (entries_of_pass pass journal) ≡ true → reply_to d pass (event.GiveBack b) ≡ reply.Returned

-- ---- a registered batch

abbrev pub RegisteredStaysLaw : Type 0
RegisteredStaysLaw = (journal more : List FullEntry) (d later : PlainDesk) → ContinuesTo journal more d later → (b : ℕ) → phase_at d b ≡ phase.Registered → phase_at later b ≡ phase.Registered

-- a fact that a registered batch shows is shown from then on
abbrev pub ShownStaysLaw : Type 0
ShownStaysLaw = (journal more : List FullEntry) (d later : PlainDesk) → ContinuesTo journal more d later → (fact : FactRecord) → IsShown d fact → IsShown later fact

-- a question that was answered Yes is answered Yes from then on, whoever asks
abbrev pub YesStaysLaw : Type 0
YesStaysLaw = (journal more : List FullEntry) (d later : PlainDesk) → ContinuesTo journal more d later → (pass client : ℕ) (fact : FactRecord) → reply_to d pass (event.Ask client fact) ≡ reply.Yes
    → (other asker : ℕ) → reply_to later other (event.Ask asker fact) ≡ reply.Yes
