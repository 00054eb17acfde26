-- What a run of a top call promises, by the status that it ends with.
use Rattle.std.specs.Prelude.{◌≡◌, ◌≤◌, ◌⊎◌, ℕ, Bool, true, false, List, [], Option, None, String, length}
use Rattle.std.specs.Io.KnownBytes.{Appends}
use Rattle.std.specs.declared.alloc.Global.{Global}
use Rattle.desk_core.specs.DeskRecords.{DeskRecord}
use Rattle.command_words.specs.Words.{Asks}
use Rattle.command_words.specs.declared.command.Command.{Command}
use Rattle.shared_prover_cli.specs.Commands.{AnswerOf, AsksForNone, reads_input}
use Rattle.shared_prover_cli.specs.Faults.{Rose}
use Rattle.shared_prover_cli.specs.Limits.{input_limit}
use Rattle.shared_prover_cli.specs.Replies.{ReplyRecord}
use Rattle.shared_prover_cli.specs.WholeStreams.{AppendsPart, ConsumesAll, ConsumesAtMost, ConsumesMoreThan}
use Rattle.shared_prover_cli.specs.declared.status.Status.{Status}
use Rattle.shared_prover_cli.specs.declared.status.Status.TheVariants as statuses

-- A source or a sink before and after a run: the bytes that it has left or holds, where they are told; how many calls failed; and
-- that nothing about it changed.
pub record Stream : Type 1 where
  pub before : Option (List ℕ)
  pub after : Option (List ℕ)
  pub faults_before : ℕ
  pub faults_after : ℕ
  pub IsUntouched : Type 0

abbrev pub stream : {S : Type 0} → (S → Option (List ℕ)) → (S → ℕ) → S → S → Stream
stream bytes faults old new = record {
  before = bytes old;
  after = bytes new;
  faults_before = faults old;
  faults_after = faults new;
  IsUntouched = new ≡ old;
}

-- the input of a command that reads is all that the source has left, within the limit; another command has none, and leaves the source
abbrev pub HasInput : Bool → Stream → List ℕ → Type 0
HasInput true source input = ConsumesAll source.before source.after input × (length input ≤ input_limit)
HasInput false source input = (input ≡ []) × source.IsUntouched

-- so much at most was read of it
abbrev pub ReadsWithin : Bool → Stream → Type 0
ReadsWithin true source = ConsumesAtMost input_limit source.before source.after
ReadsWithin false source = source.IsUntouched

-- more than the limit was read, by a command that reads
abbrev pub ReadsBeyond : Bool → Stream → Type 0
ReadsBeyond true source = ConsumesMoreThan input_limit source.before source.after
ReadsBeyond false source = ⊥

-- a read of a command that reads failed, within the limit
abbrev pub ReadFails : Bool → Stream → Type 0
ReadFails true source = ConsumesAtMost input_limit source.before source.after × Rose source.faults_before source.faults_after
ReadFails false source = ⊥

-- nothing was read or written, and there is no desk
pub record DoesNothing (source sink : Stream) (desk : Option DeskRecord) : Type 0 where
  pub unread : source.IsUntouched
  pub unwritten : sink.IsUntouched
  pub no_desk : desk ≡ None

module _ (IsOwn : Command → Type 0) (words : List (String Global)) (source sink : Stream) (desk : Option DeskRecord) where
  -- The words ask for none of the call's own commands, so it does nothing.
  pub record NotAsked : Type 0 where
    pub no_command : AsksForNone IsOwn words
    pub nothing : DoesNothing source sink desk

  -- They ask for one, so much was read for it, nothing was written, and there is no desk.
  pub record StopsEarly (Reads : Bool → Stream → Type 0) : Type 0 where
    pub command : Command
    pub own : IsOwn command
    pub asked : Asks words command
    pub reads : Reads (reads_input command) source
    pub unwritten : sink.IsUntouched
    pub no_desk : desk ≡ None

  -- They ask for one, its input was read, of the text of its reply this much was written, and the desk is that of its script.
  pub record Replies (Writes : ReplyRecord → Type 0) : Type 0 where
    pub command : Command
    pub own : IsOwn command
    pub asked : Asks words command
    pub input : List ℕ
    pub has_input : HasInput (reads_input command) source input
    pub reply : ReplyRecord
    pub answer : AnswerOf command input reply desk
    pub writes : Writes reply

-- the whole text, and the reply has this status
abbrev pub WritesWhole : ℕ → Stream → ReplyRecord → Type 0
WritesWhole status sink reply = (reply.status ≡ status) × Appends sink.before sink.after reply.text

-- a beginning of the text, since a write failed
abbrev pub WritesPart : Stream → ReplyRecord → Type 0
WritesPart sink reply = AppendsPart sink.before sink.after reply.text × Rose sink.faults_before sink.faults_after

-- The promise of a call with these commands of its own. Want of memory alone is free: where the words were not read for it, the call
-- does nothing.
abbrev pub EndsWith : (Command → Type 0) → List (String Global) → Stream → Stream → Status → Option DeskRecord → Type 0
EndsWith IsOwn words source sink statuses.Done desk = Replies IsOwn words source sink desk (WritesWhole 0 sink)
EndsWith IsOwn words source sink statuses.Refused desk = Replies IsOwn words source sink desk (WritesWhole 1 sink)
EndsWith IsOwn words source sink statuses.Usage desk = NotAsked IsOwn words source sink desk
EndsWith IsOwn words source sink statuses.Script desk = Replies IsOwn words source sink desk (WritesWhole 3 sink)
EndsWith IsOwn words source sink statuses.ReadFault desk = StopsEarly IsOwn words source sink desk ReadFails
EndsWith IsOwn words source sink statuses.WriteFault desk = Replies IsOwn words source sink desk (WritesPart sink)
EndsWith IsOwn words source sink statuses.OutOfMemory desk =
    DoesNothing source sink desk ⊎ StopsEarly IsOwn words source sink desk ReadsWithin
EndsWith IsOwn words source sink statuses.TooLong desk = StopsEarly IsOwn words source sink desk ReadsBeyond
