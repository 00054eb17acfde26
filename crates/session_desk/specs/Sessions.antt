-- The journal of a desk as a lock keeps it: each entry with the number of its pass.
use Rattle.std.specs.Prelude.{◌≡◌, ℕ, List, [], ◌∷◌, ◌++◌, map}
use Rattle.cairo_model.specs.Pie.Records.{PieRecord}
use Rattle.desk_core.specs.DeskRecords.{DeskRecord, journal_of}
use Rattle.desk_core.specs.Isolation.{IsIsolated, answered_of}
use Rattle.desk_core.specs.Turns.{entry_of}
use Rattle.desk_core.specs.declared.entry.FullEntry.{FullEntry}
use Rattle.desk_core.specs.declared.event.Event.{Event}
use Rattle.desk_core.specs.declared.reply.Reply.{Reply}
use Rattle.turn_lock.specs.Passes.{Token}

abbrev pub with_pass : FullEntry → ℕ × FullEntry
with_pass e = (e.entry.pass, e)

abbrev pub passed_journal : DeskRecord → List (ℕ × FullEntry)
passed_journal d = map with_pass (journal_of d)

-- the entries alone
abbrev pub notes_in : List (ℕ × FullEntry) → List FullEntry
notes_in es = map (λ e. e.1) es

-- in what a pass has seen, each client's replies are those that its own offers alone determine
abbrev pub SeenIsIsolated : List (ℕ × FullEntry) → Type 0
SeenIsIsolated seen = IsIsolated (map answered_of (notes_in seen))

-- the entry of an event with its reply, under this number
abbrev pub own_entry : ℕ → Event → PieRecord → Reply → ℕ × FullEntry
own_entry number e pie r = with_pass (entry_of number e pie r)

-- a pass's own entries go on by that of this event with this reply
abbrev pub HasOneMore : Event → PieRecord → (old new : Token FullEntry) → Reply → Type 0
HasOneMore e pie old new r = new.mine ≡ old.mine ++ own_entry old.number e pie r ∷ []
