-- The reply to a text, and to its code.
use Rattle.std.specs.Prelude.{ℕ, ◌≡◌, List, Result}
use Rattle.cairo_model.specs.Limits.{most_steps}
use Rattle.cairo_model.specs.Pie.Records.{PieRecord}
use Rattle.seg_runner.specs.Answers.{IsRunAnswer}
use Rattle.seg_runner.specs.Refusals.{RunCause}
use Rattle.shared_prover_cli.specs.Answers.Run.{TextOutcome, ran}
use Rattle.shared_prover_cli.specs.Answers.RunTexts.{IsFileOf, outcome_status, outcome_text}
use Rattle.shared_prover_cli.specs.Replies.{ReplyRecord}

-- the status and the text of an outcome
pub record TellsOutcome (outcome : TextOutcome) (reply : ReplyRecord) : Type 0 where
  pub has_status : reply.status ≡ outcome_status outcome
  pub has_text : reply.text ≡ outcome_text outcome
  pub is_file : IsFileOf outcome reply.text

-- what this code runs to
pub record CodeReply (words : List ℕ) (main : ℕ) (reply : ReplyRecord) : Type 0 where
  pub outcome : Result PieRecord RunCause
  pub is_answer : IsRunAnswer words main most_steps outcome
  pub tells : TellsOutcome (ran outcome) reply
