-- The reply to a certificate that is accepted.
use Rattle.std.specs.Prelude.{ℕ, ◌≡◌, ◌+◌, List, length}
use Rattle.cairo_model.specs.Certificate.Acceptance.{SpanHolds}
use Rattle.cairo_model.specs.Certificate.Records.{CertRecord}
use Rattle.shared_prover_cli.specs.Answers.CheckTexts.{accepted_text}
use Rattle.shared_prover_cli.specs.Replies.{ReplyRecord}

-- its status is 0, and its line has the steps and the outputs
pub record AcceptedReply (cert : CertRecord) (reply : ReplyRecord) : Type 0 where
  pub steps : ℕ
  pub outputs : List ℕ
  pub count : length cert.states ≡ steps + 1
  pub holds : SpanHolds cert.cells cert.output outputs
  pub has_status : reply.status ≡ 0
  pub has_text : reply.text ≡ accepted_text cert.kind steps outputs
