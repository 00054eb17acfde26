use Rattle.std.proofs.Common.{List, ℕ, refl, ap, ◌∙◌}
use Rattle.boot_program.specs.Faults.Records.{fault_cause}
use Rattle.cert_format.specs.Feeding.{IsFed}
use Rattle.shared_prover_cli.specs.Answers.Check as check
use Rattle.shared_prover_cli.specs.Answers.CheckTexts.{CheckLine}
use Rattle.shared_prover_cli.specs.Working.Checking.{AcceptedReply}
use Rattle.shared_prover_cli.specs.Working.Replies.{outcome_number, reply_view}
use Rattle.shared_prover_cli.proofs.CheckLemmas.{under_ok}
use Rattle.shared_prover_cli.specs.declared.reply.Reply.{Reply}
use Rattle.shared_prover_cli.proofs.answers.check.check_answer.Goals as goal

-- the bytes are no certificate's
pub returns-in-Err-Refused : goal.returns-in-Err-Refused
returns-in-Err-Refused g c fed h = record {
  answer = check.no_certificate c.in-Err-Refused.refusal;
  is_answer = (
    c.in-Err-Refused.ensures.refused c.in-Err-Refused.refusal (cc) fed h,
    λ cert. c.in-Err-Refused.ensures.only c.in-Err-Refused.refusal (cc) fed h cert,
  );
  has_status = ap (λ (r : Reply). outcome_number r.outcome) c.refused.ensures;
  has_text = ap (λ (r : Reply). r.text.items) c.refused.ensures ∙ c.in_ok-certificate_line-in-Err-Refused.ensures;
}

-- it is accepted
pub returns-in-Ok-check_run : goal.returns-in-Ok-check_run
returns-in-Ok-check_run g c =
    let cert = c.in-Ok.cert in
    under_ok (λ reply. AcceptedReply cert (reply_view reply)) (λ reply. (fed : List ℕ) → IsFed c.args.reader fed → CheckLine fed (reply_view reply)) c.accepted.result (λ reply kept fed h. record {
      answer = check.accepted cert.kind kept.steps kept.outputs;
      is_answer = (cert, (c.in-Ok.ensures.sound fed h, (refl, (c.in-Ok-check_run.ensures.accepted, (kept.count, kept.holds)))));
      has_status = kept.has_status;
      has_text = kept.has_text;
    }) c.accepted.ensures

-- it has a fault
pub returns-in-Err-Refused-check_run : goal.returns-in-Err-Refused-check_run
returns-in-Err-Refused-check_run g c fed h =
    let cert = c.in-Ok.cert in
    let first = c.in-Err-Refused-check_run.ensures.refused c.in-Err-Refused-check_run.fault (cc) in
    record {
      answer = check.faulty (fault_cause c.in-Err-Refused-check_run.fault);
      is_answer = (cert, (c.in-Ok.ensures.sound fed h, (first, λ accepts. c.accepted_has_no_fault.ensures cert accepts (fault_cause c.in-Err-Refused-check_run.fault) first.applies)));
      has_status = ap (λ (r : Reply). outcome_number r.outcome) c.refused-in-Err-Refused-check_run.ensures;
      has_text = ap (λ (r : Reply). r.text.items) c.refused-in-Err-Refused-check_run.ensures ∙ c.in_ok-fault_line-in-Err-Refused-check_run.ensures;
    }
