-- What a pass knows: the desk by what it has seen, and which batches it has in hand by its own entries.
use Rattle.std.specs.Prelude.{◌≡◌, ℕ, false}
use Rattle.cairo_model.specs.Pie.Acceptance.{FactRecord}
use Rattle.desk_core.specs.Desks.{PlainDesk}
use Rattle.desk_core.specs.Hands.{in_hand}
use Rattle.desk_core.specs.RegisteredFacts.{IsShown}
use Rattle.desk_core.specs.Stays.{desk_seen}
use Rattle.desk_core.specs.declared.entry.FullEntry.{FullEntry}
use Rattle.session_desk.specs.Sessions.{notes_in}
use Rattle.turn_lock.specs.Passes.{Token}

-- the desk that the entries lead to which the pass has seen
abbrev pub seen_desk : Token FullEntry → PlainDesk
seen_desk p = desk_seen p.width (notes_in p.seen)

-- by its own entries the pass has no batch in hand: each that it took, it registered or gave back since
abbrev pub IsIdlePass : Token FullEntry → Type 0
IsIdlePass p = (b : ℕ) → in_hand b false (notes_in p.mine) ≡ false

-- the pass has seen a batch registered that has a job with this fact
abbrev pub HasSeenFact : FactRecord → Token FullEntry → Type 0
HasSeenFact fact p = IsShown (seen_desk p) fact
