use Rattle.std.proofs.Common.{refl}
use Rattle.cairo_model.specs.Views.Refusals.{refused}
use Rattle.cairo_model.specs.Refusals.Verdicts.{admitted}
use Rattle.shared_prover_cli.proofs.VerdictStatus.{refused_status, refused_listed}
use Rattle.shared_prover_cli.proofs.answers.list.list_answer.Goals as goal

-- the listing of the PIE that was admitted
pub returns-in_ok-listing_bytes-in-Ok : goal.returns-in_ok-listing_bytes-in-Ok
returns-in_ok-listing_bytes-in-Ok c = record {
  verdict = admitted c.in-Ok.checked;
  is_verdict = c.in-Ok.ensures.admitted;
  has_status = refl;
  has_text = c.in_ok-listing_bytes-in-Ok.ensures;
}

-- the line of the refusal
pub returns-in_ok-refusal_line-in-Err-Refused : goal.returns-in_ok-refusal_line-in-Err-Refused
returns-in_ok-refusal_line-in-Err-Refused c = record {
  verdict = refused c.in-Err-Refused.refusal;
  is_verdict = c.in-Err-Refused.ensures.refused c.in-Err-Refused.refusal (cc);
  has_status = refused_status c.in-Err-Refused.refusal;
  has_text = refused_listed c.in-Err-Refused.refusal _ c.in_ok-refusal_line-in-Err-Refused.ensures;
}
