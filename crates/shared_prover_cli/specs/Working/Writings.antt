-- What is written of a reply, by the status that comes of it.
use Rattle.std.specs.Prelude.{◌≡◌, Option, None, Result, Ok, Err}
use Rattle.desk_core.specs.DeskRecords.{DeskRecord}
use Rattle.shared_prover_cli.specs.Replies.{ReplyRecord}
use Rattle.shared_prover_cli.specs.Runs.{Stream, WritesPart, WritesWhole}
use Rattle.shared_prover_cli.specs.Working.Replies.{reply_view}
use Rattle.shared_prover_cli.specs.declared.status.Status.{Status}
use Rattle.shared_prover_cli.specs.declared.status.Status.TheVariants as statuses
use Rattle.shared_prover_cli.specs.declared.told.Told.{Told}
use Rattle.shared_prover_cli.specs.declared.whole.InputFault.{InputFault}
use Rattle.shared_prover_cli.specs.declared.whole.InputFault.TheVariants as faults

abbrev pub IsWrittenWith : ReplyRecord → Stream → Status → Type 0
IsWrittenWith reply sink statuses.Done = WritesWhole 0 sink reply
IsWrittenWith reply sink statuses.Refused = WritesWhole 1 sink reply
IsWrittenWith reply sink statuses.Usage = ⊥
IsWrittenWith reply sink statuses.Script = WritesWhole 3 sink reply
IsWrittenWith reply sink statuses.ReadFault = ⊥
IsWrittenWith reply sink statuses.WriteFault = WritesPart sink reply
IsWrittenWith reply sink statuses.OutOfMemory = ⊥
IsWrittenWith reply sink statuses.TooLong = ⊥

-- the status where an input was not read whole
abbrev pub status_of_fault : InputFault → Status
status_of_fault faults.ReadFault = statuses.ReadFault
status_of_fault faults.TooLong = statuses.TooLong
status_of_fault faults.OutOfMemory = statuses.OutOfMemory

-- the reply was written with this status, and its desk is handed out
pub record WritesTold (told : Told) (sink : Stream) (status : Status) (desk : Option DeskRecord) : Type 0 where
  pub written : IsWrittenWith (reply_view told.reply) sink status
  pub same_desk : desk ≡ told.desk

-- nothing was written
pub record WritesNothing (fault : InputFault) (sink : Stream) (status : Status) (desk : Option DeskRecord) : Type 0 where
  pub of_fault : status ≡ status_of_fault fault
  pub unwritten : sink.IsUntouched
  pub no_desk : desk ≡ None

-- what comes of a reply, or of an input that was not read whole
abbrev pub EndsBy : Result Told InputFault → Stream → Status → Option DeskRecord → Type 0
EndsBy (Ok told) sink status desk = WritesTold told sink status desk
EndsBy (Err fault) sink status desk = WritesNothing fault sink status desk
