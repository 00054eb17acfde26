-- `replay`: the line of the one verdict on the file that the input is.
use Rattle.std.specs.Prelude.{◌≡◌, ℕ, List}
use Rattle.cairo_model.specs.Refusals.Verdicts.{IsVerdict, Verdict}
use Rattle.shared_prover_cli.specs.Replies.{ReplyRecord}
use Rattle.shared_prover_cli.specs.Texts.{verdict_status, verdict_text}

pub record ReplayAnswer (input : List ℕ) (reply : ReplyRecord) : Type 0 where
  pub verdict : Verdict
  pub is_verdict : IsVerdict input verdict
  pub has_status : reply.status ≡ verdict_status verdict
  pub has_text : reply.text ≡ verdict_text verdict
