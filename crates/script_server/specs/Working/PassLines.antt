-- What the pass of a client, and that of a worker, does at a shared desk.
use Rattle.std.specs.Prelude.{◌≡◌, Bool, true, List, ◌++◌, map}
use Rattle.batch_workers.specs.SharedWorks.{PassWorks}
use Rattle.desk_core.specs.declared.entry.FullEntry.{FullEntry}
use Rattle.desk_script.specs.Lines.{ScriptLine}
use Rattle.script_runner.specs.Lines.{DoesLine, DoesLines, client_lines}
use Rattle.session_desk.specs.SeenDesks.{IsIdlePass}
use Rattle.session_desk.specs.Sessions.{with_pass}
use Rattle.turn_lock.specs.Journals.{entries_by}
use Rattle.turn_lock.specs.Passes.{Token}

-- the same pass of the same lock
pub record IsSamePass (old new : Token FullEntry) : Type 0 where
  pub lock : new.lock ≡ old.lock
  pub number : new.number ≡ old.number
  pub width : new.width ≡ old.width

-- the pass has more entries, which are the line's, and no batch in hand
pub record PassDoesLine (line : ScriptLine) (old new : Token FullEntry) : Type 0 where
  pub more : List FullEntry
  pub mine : new.mine ≡ old.mine ++ map with_pass more
  pub does : DoesLine line more
  pub idle : IsIdlePass new

-- the same of lines one after another
pub record PassDoesLines (lines : List ScriptLine) (old new : Token FullEntry) : Type 0 where
  pub more : List FullEntry
  pub mine : new.mine ≡ old.mine ++ map with_pass more
  pub does : DoesLines lines more
  pub idle : IsIdlePass new

-- what a client's thread gives back: its pass, which has seen all its own entries, with its lines of these done where it says so
pub record GivesLines (lines : List ScriptLine) (old new : Token FullEntry) (done : Bool) : Type 0 where
  pub same : IsSamePass old new
  pub own : entries_by new.number new.seen ≡ new.mine
  pub did : done ≡ true → PassDoesLines (client_lines old.number lines) old new

abbrev pub AnyEnd : List FullEntry → Type 0
AnyEnd es = Unit {0}

-- the pass made a worker's entries alone
abbrev pub MadeWork : Token FullEntry → Token FullEntry → Type 0
MadeWork old new = PassWorks AnyEnd old new
