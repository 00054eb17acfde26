use Rattle.std.proofs.Common.{inr, refl, ap, ◌∙◌}
use Rattle.casm_text.specs.declared.refusal.AsmRefusal.TheVariants.{Syntax}
use Rattle.shared_prover_cli.specs.Answers.Run.{line_of_byte, no_code}
use Rattle.shared_prover_cli.specs.Answers.RunTexts.{RunAnswer}
use Rattle.shared_prover_cli.specs.Working.Replies.{reply_view}
use Rattle.shared_prover_cli.specs.Working.Running.{TellsOutcome}
use Rattle.shared_prover_cli.proofs.CheckLemmas.{under_ok}
use Rattle.shared_prover_cli.proofs.answers.run.run_answer.Goals as goal

-- the bytes aren't UTF-8
pub returns-in-Err : goal.returns-in-Err
returns-in-Err c =
    let line = c.line_of_byte-line.result in
    let index = c.in-Err.error.valid_up_to in
    let is_line = c.line_of_byte-line.ensures ∙ ap (line_of_byte c.args.input.now) c.valid_up_to.ensures in
    under_ok (λ reply. TellsOutcome (no_code (Syntax line)) (reply_view reply)) (λ reply. RunAnswer c.args.input.now (reply_view reply)) c.no_code_reply.result (λ reply kept. record {
      outcome = no_code (Syntax line);
      is_outcome = inr (line, ((index, (c.in-Err.ensures.cases.1, is_line)), refl));
      has_status = kept.has_status;
      has_text = kept.has_text;
      is_file = kept.is_file;
    }) c.no_code_reply.ensures
