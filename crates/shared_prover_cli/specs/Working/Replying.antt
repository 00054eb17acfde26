-- What comes of a command that is asked for.
use Rattle.std.specs.Prelude.{◌≡◌, ◌≢◌, ℕ, List, Option, None, Result, Ok, Err, IfOk}
use Rattle.desk_core.specs.DeskRecords.{DeskRecord}
use Rattle.command_words.specs.Words.{IsWordedBy, wording_of}
use Rattle.shared_prover_cli.specs.Commands.{AnswerOf, reads_input}
use Rattle.shared_prover_cli.specs.Replies.{ReplyRecord}
use Rattle.shared_prover_cli.specs.Runs.{HasInput, ReadFails, ReadsBeyond, ReadsWithin, Stream}
use Rattle.shared_prover_cli.specs.Working.Replies.{reply_view}
use Rattle.command_words.specs.declared.command.Command.{Command}
use Rattle.shared_prover_cli.specs.declared.reply.Reply.{Reply}
use Rattle.shared_prover_cli.specs.declared.told.Told.{Told}
use Rattle.shared_prover_cli.specs.declared.whole.InputFault.{InputFault}
use Rattle.shared_prover_cli.specs.declared.whole.InputFault.TheVariants.{ReadFault, TooLong}

-- some words ask for it
abbrev pub CanBeAsked : Command → Type 0
CanBeAsked command = (words : List (List ℕ)) × IsWordedBy (wording_of command) words

-- its reply to the input that it has, and the desk of its script
pub record IsReplyTo (command : Command) (source : Stream) (reply : ReplyRecord) (desk : Option DeskRecord) : Type 0 where
  pub input : List ℕ
  pub has_input : HasInput (reads_input command) source input
  pub answer : AnswerOf command input reply desk

-- the reply of a command that runs no script, or how much was read where there is none
pub record ComesTo (command : Command) (source : Stream) (result : Result Reply InputFault) : Type 0 where
  pub answered : IfOk result (λ reply. IsReplyTo command source (reply_view reply) None)
  pub long : result ≡ Err TooLong → ReadsBeyond (reads_input command) source
  pub within : result ≢ Err TooLong → ReadsWithin (reads_input command) source
  pub failed : result ≡ Err ReadFault → ReadFails (reads_input command) source

-- the reply and the desk
pub record ComesWith (command : Command) (source : Stream) (result : Result Told InputFault) : Type 0 where
  pub answered : IfOk result (λ told. IsReplyTo command source (reply_view told.reply) told.desk)
  pub long : result ≡ Err TooLong → ReadsBeyond (reads_input command) source
  pub within : result ≢ Err TooLong → ReadsWithin (reads_input command) source
  pub failed : result ≡ Err ReadFault → ReadFails (reads_input command) source

-- a reply with no desk
abbrev pub told_alone : Result Reply InputFault → Result Told InputFault
told_alone (Ok reply) = Ok (record { reply = reply; desk = None })
told_alone (Err fault) = Err fault
