-- The replies of the code as plain data.
use Rattle.std.specs.Prelude.{ℕ}
use Rattle.shared_prover_cli.specs.Replies.{ReplyRecord}
use Rattle.shared_prover_cli.specs.declared.reply.Outcome.{Outcome}
use Rattle.shared_prover_cli.specs.declared.reply.Outcome.TheVariants.{Done, Refused, Script}
use Rattle.shared_prover_cli.specs.declared.reply.Reply.{Reply}

-- the status of an outcome, as a number
abbrev pub outcome_number : Outcome → ℕ
outcome_number Done = 0
outcome_number Refused = 1
outcome_number Script = 3

-- a reply of the code as plain data
abbrev pub reply_view : Reply → ReplyRecord
reply_view reply = record { status = outcome_number reply.outcome; text = reply.text.items }
