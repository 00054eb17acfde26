-- What one line of a script, and lines one after another, do to a desk.
use Rattle.std.specs.Prelude.{ℕ, ◌≡◌, ◌≢◌, List, ◌++◌}
use Rattle.batch_workers.specs.Works.{AllRegistered}
use Rattle.desk_core.specs.DeskRecords.{DeskRecord, journal_of, plain_of}
use Rattle.desk_core.specs.Desks.{PlainDesk, empty_desk, phase_at}
use Rattle.desk_core.specs.declared.entry.FullEntry.{FullEntry}
use Rattle.desk_core.specs.declared.phase.Phase.TheVariants as phase
use Rattle.desk_script.specs.Lines.{ScriptLine}
use Rattle.script_runner.specs.Lines.{DoesLine, Settles}
use Rattle.script_runner.specs.Runs.{DoesInTurn, LeavesSettled}

-- no batch is taken
abbrev pub NoneTaken : PlainDesk → Type 0
NoneTaken d = (b pass : ℕ) → phase_at d b ≢ phase.Taken pass

-- the line was done
pub record DidLine (line : ScriptLine) (old new : DeskRecord) : Type 0 where
  pub more : List FullEntry
  pub journal : journal_of new ≡ journal_of old ++ more
  pub does : DoesLine line more
  pub settled : LeavesSettled line (plain_of new)
  pub clients : new.clients ≡ old.clients
  pub free : NoneTaken (plain_of new)

-- a pass settled
pub record Settled (pass : ℕ) (old new : DeskRecord) : Type 0 where
  pub more : List FullEntry
  pub journal : journal_of new ≡ journal_of old ++ more
  pub settles : Settles pass more
  pub registered : AllRegistered (plain_of new)
  pub clients : new.clients ≡ old.clients
  pub closed : new.closed ≡ old.closed
  pub free : NoneTaken (plain_of new)

-- the desk's whole journal is that of these lines in order
pub record DidLines (clients : ℕ) (lines : List ScriptLine) (d : DeskRecord) : Type 0 where
  pub in_turn : DoesInTurn (empty_desk clients) lines (journal_of d)
  pub count : d.clients ≡ clients
  pub free : NoneTaken (plain_of d)
