use Rattle.std.proofs.Common.{refl, ap, ◌∙◌}
use Rattle.cairo_model.specs.Views.Refusals.{refused}
use Rattle.cairo_model.specs.Refusals.Verdicts.{admitted}
use Rattle.shared_prover_cli.specs.Texts.{admitted_text}
use Rattle.shared_prover_cli.proofs.VerdictStatus.{refused_status}
use Rattle.shared_prover_cli.proofs.answers.replay.replay_answer.Goals as goal

-- the line of the PIE that was admitted
pub returns-in_ok-admitted_line-in-Ok : goal.returns-in_ok-admitted_line-in-Ok
returns-in_ok-admitted_line-in-Ok c = record {
  verdict = admitted c.in-Ok.checked;
  is_verdict = c.in-Ok.ensures.admitted;
  has_status = refl;
  has_text = c.in_ok-admitted_line-in-Ok.ensures ∙ ap admitted_text c.fact.ensures;
}

-- the line of the refusal
pub returns-in_ok-refusal_line-in-Err-Refused : goal.returns-in_ok-refusal_line-in-Err-Refused
returns-in_ok-refusal_line-in-Err-Refused c = record {
  verdict = refused c.in-Err-Refused.refusal;
  is_verdict = c.in-Err-Refused.ensures.refused c.in-Err-Refused.refusal (cc);
  has_status = refused_status c.in-Err-Refused.refusal;
  has_text = c.in_ok-refusal_line-in-Err-Refused.ensures;
}
