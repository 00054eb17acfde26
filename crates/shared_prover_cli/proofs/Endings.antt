-- How a run of a top call ends, by what was replied.
use Rattle.std.proofs.Common.{List, Option, None, Result, Ok, Err, inr, refl, subst, sym}
use Rattle.std.specs.Prelude.{String}
use Rattle.std.specs.declared.alloc.Global.{Global}
use Rattle.command_words.specs.Words.{Asks}
use Rattle.command_words.specs.declared.command.Command.{Command}
use Rattle.desk_core.specs.DeskRecords.{DeskRecord}
use Rattle.shared_prover_cli.specs.Replies.{ReplyRecord}
use Rattle.shared_prover_cli.specs.Runs.{EndsWith, Replies, Stream, WritesPart, WritesWhole}
use Rattle.shared_prover_cli.specs.Working.Replies.{reply_view}
use Rattle.shared_prover_cli.specs.Working.Replying.{ComesWith, IsReplyTo}
use Rattle.shared_prover_cli.specs.Working.Writings.{EndsBy, WritesTold, status_of_fault}
use Rattle.shared_prover_cli.specs.declared.status.Status.{Status}
use Rattle.shared_prover_cli.specs.declared.status.Status.TheVariants as statuses
use Rattle.shared_prover_cli.specs.declared.told.Told.{Told}
use Rattle.shared_prover_cli.specs.declared.whole.InputFault.{InputFault}
use Rattle.shared_prover_cli.specs.declared.whole.InputFault.TheVariants as faults

module _ (IsOwn : Command → Type 0) (words : List (String Global)) (source sink : Stream) (command : Command) (own : IsOwn command) (asked : Asks words command) where
  replied : (Writes : ReplyRecord → Type 0) (reply : ReplyRecord) (desk : Option DeskRecord) → IsReplyTo command source reply desk → Writes reply → Replies IsOwn words source sink desk Writes
  replied Writes reply desk p writes = record { command = command; own = own; asked = asked; input = p.input; has_input = p.has_input; reply = reply; answer = p.answer; writes = writes }

  told_ends : (told : Told) (status : Status) → IsReplyTo command source (reply_view told.reply) told.desk → WritesTold told sink status told.desk → EndsWith IsOwn words source sink status told.desk
  told_ends told statuses.Done p w = replied (WritesWhole 0 sink) (reply_view told.reply) told.desk p w.written
  told_ends told statuses.Refused p w = replied (WritesWhole 1 sink) (reply_view told.reply) told.desk p w.written
  told_ends told statuses.Usage p w = absurd w.written
  told_ends told statuses.Script p w = replied (WritesWhole 3 sink) (reply_view told.reply) told.desk p w.written
  told_ends told statuses.ReadFault p w = absurd w.written
  told_ends told statuses.WriteFault p w = replied (WritesPart sink) (reply_view told.reply) told.desk p w.written
  told_ends told statuses.OutOfMemory p w = absurd w.written
  told_ends told statuses.TooLong p w = absurd w.written

  fault_ends : (fault : InputFault) → ComesWith command source (Err fault) → sink.IsUntouched → EndsWith IsOwn words source sink (status_of_fault fault) None
  fault_ends faults.ReadFault c unwritten = record { command = command; own = own; asked = asked; reads = c.failed refl; unwritten = unwritten; no_desk = refl }
  fault_ends faults.TooLong c unwritten = record { command = command; own = own; asked = asked; reads = c.long refl; unwritten = unwritten; no_desk = refl }
  fault_ends faults.OutOfMemory c unwritten =
      inr (record { command = command; own = own; asked = asked; reads = c.within (λ e. absurd (cc)); unwritten = unwritten; no_desk = refl })

  -- the call ends by what was replied
  pub ends : (replied : Result Told InputFault) (status : Status) (desk : Option DeskRecord) → ComesWith command source replied → EndsBy replied sink status desk → EndsWith IsOwn words source sink status desk
  ends (Ok told) status desk c e =
      subst (λ (d : Option DeskRecord). EndsWith IsOwn words source sink status d) (sym e.same_desk)
      (told_ends told status c.answered (record { written = e.written; same_desk = refl }))
  ends (Err fault) status desk c e =
      subst (λ (d : Option DeskRecord). EndsWith IsOwn words source sink status d) (sym e.no_desk)
      (subst (λ (s : Status). EndsWith IsOwn words source sink s None) (sym e.of_fault) (fault_ends fault c e.unwritten))
