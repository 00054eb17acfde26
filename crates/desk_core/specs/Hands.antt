-- Which batches a pass has in hand, by its own entries alone.
use Rattle.std.specs.Prelude.{◌≡◌, ℕ, ◌==◌, Bool, true, false, List, [], ◌∷◌, filter, if◌then◌else◌}
use Rattle.desk_core.specs.Desks.{PlainDesk, phase_at, is_taken_by}
use Rattle.desk_core.specs.Journals.{IsLegal}
use Rattle.desk_core.specs.declared.entry.FullEntry.{FullEntry}
use Rattle.desk_core.specs.declared.event.Event.{Event}
use Rattle.desk_core.specs.declared.event.Event.TheVariants as event
use Rattle.desk_core.specs.declared.reply.Reply.{Reply}
use Rattle.desk_core.specs.declared.reply.Reply.TheVariants as reply

-- whether the pass that made the event has batch b in hand after it, by whether it had before
abbrev pub in_hand_after : ℕ → Bool → Event → Reply → Bool
in_hand_after b had event.Take (reply.TakenBatch k) = if k == b then true else had
in_hand_after b had (event.Register k differs) reply.Registered = if k == b then false else had
in_hand_after b had (event.GiveBack k) reply.Returned = if k == b then false else had
in_hand_after b had e r = had

-- whether it has after all of these entries of its own
abbrev pub in_hand : ℕ → Bool → List FullEntry → Bool
in_hand b had [] = had
in_hand b had (e ∷ es) = in_hand b (in_hand_after b had e.entry.event e.entry.reply) es

-- the entries that a pass made
abbrev pub entries_of_pass : ℕ → List FullEntry → List FullEntry
entries_of_pass pass journal = filter (λ e. e.entry.pass == pass) journal

-- a batch is taken by a pass exactly where the pass's own entries say that it is in hand
abbrev pub HandLaw : Type 0
HandLaw = (journal : List FullEntry) (d : PlainDesk) → IsLegal journal d → (pass b : ℕ) → is_taken_by pass (phase_at d b) ≡ in_hand b false (entries_of_pass pass journal)
