-- A script run on one thread: its lines in order, then the end (docs/SERVICE.md).
use Rattle.std.specs.Prelude.{ℕ, ◌≡◌, List, [], ◌∷◌, ◌++◌, filter, map}
use Rattle.std.specs.List.{AllZip}
use Rattle.batch_workers.specs.Works.{AllRegistered}
use Rattle.desk_core.specs.DeskRecords.{DeskRecord, journal_of}
use Rattle.desk_core.specs.Desks.{PlainDesk, empty_desk}
use Rattle.desk_core.specs.Journals.{move_of, no_pie, played}
use Rattle.desk_core.specs.Turns.{entry_of}
use Rattle.desk_core.specs.declared.entry.FullEntry.{FullEntry}
use Rattle.desk_core.specs.declared.event.Event.TheVariants as event
use Rattle.desk_core.specs.declared.reply.Reply.TheVariants as reply
use Rattle.desk_script.specs.Lines.{ScriptLine, asks, asks_status, settles, submits}
use Rattle.script_runner.specs.Lines.{DoesLine, IsEntryOf, Settles, is_request_line, requests_in}
use Rattle.script_runner.specs.Serving.{ServesScript}

-- the desk after these entries
abbrev pub desk_after : PlainDesk → List FullEntry → PlainDesk
desk_after d es = played d (map move_of es)

-- where the line settles, every job is in a registered batch
abbrev pub LeavesSettled : ScriptLine → PlainDesk → Type 0
LeavesSettled (submits client bytes) d = Unit {0}
LeavesSettled (asks client fact) d = Unit {0}
LeavesSettled (asks_status client number) d = Unit {0}
LeavesSettled (settles client) d = AllRegistered d

-- From this desk on, the entries are those of the lines in their order, each line's by its own client's pass. What was admitted
-- before a line that settles is registered before the next line's first entry.
abbrev pub DoesInTurn : PlainDesk → List ScriptLine → List FullEntry → Type 0
DoesInTurn d [] es = es ≡ []
DoesInTurn d (l ∷ ls) es =
    (front : List FullEntry) × (rest : List FullEntry) × (es ≡ front ++ rest) × DoesLine l front × LeavesSettled l (desk_after d front)
    × DoesInTurn (desk_after d front) ls rest

-- The desk is closed by a pass of its own, whose number is that of the clients, and this pass settles.
pub record RunsScript (clients : ℕ) (lines : List ScriptLine) (d : DeskRecord) : Type 0 where
  pub serves : ServesScript clients lines d
  pub by_lines : List FullEntry
  pub at_end : List FullEntry
  pub journal : journal_of d ≡ by_lines ++ entry_of clients event.Close no_pie reply.Closed ∷ at_end
  pub in_turn : DoesInTurn (empty_desk clients) lines by_lines
  pub settles : Settles clients at_end
  pub in_order : AllZip IsEntryOf (filter is_request_line lines) (requests_in (journal_of d))
