use Rattle.std.proofs.Common.{inl}
use Rattle.shared_prover_cli.specs.Answers.Run.{no_code, ran}
use Rattle.shared_prover_cli.specs.Answers.RunTexts.{RunAnswer}
use Rattle.shared_prover_cli.specs.Working.Replies.{reply_view}
use Rattle.shared_prover_cli.specs.Working.Running.{CodeReply, TellsOutcome}
use Rattle.shared_prover_cli.proofs.CheckLemmas.{under_ok}
use Rattle.shared_prover_cli.proofs.RunLemmas.{main_small}
use Rattle.shared_prover_cli.proofs.answers.run.text_answer.Goals as goal

-- the main entry of the code is one of its offsets, or the one behind them
pub code_answer-requires-clause-main : goal.code_answer-requires-clause-main
code_answer-requires-clause-main c =
    let gives = c.in-Ok.ensures.code in
    main_small _ _ _ gives (c.code_is_small.ensures.count _ _ _ gives)

-- what the code runs to
pub returns-in-Ok : goal.returns-in-Ok
returns-in-Ok c =
    let code = c.in-Ok.code in
    under_ok (λ reply. CodeReply code.words.items code.main (reply_view reply)) (λ reply. RunAnswer c.args.text.now (reply_view reply)) c.code_answer.result (λ reply kept. record {
      outcome = ran kept.outcome;
      is_outcome = (c.utf8.text, record { words = code.words.items; main = code.main; has_code = c.in-Ok.ensures.code; runs = kept.is_answer });
      has_status = kept.tells.has_status;
      has_text = kept.tells.has_text;
      is_file = kept.tells.is_file;
    }) c.code_answer.ensures

-- the text has no code
pub returns-in-Err-Refused : goal.returns-in-Err-Refused
returns-in-Err-Refused c =
    let refusal = c.in-Err-Refused.refusal in
    under_ok (λ reply. TellsOutcome (no_code refusal) (reply_view reply)) (λ reply. RunAnswer c.args.text.now (reply_view reply)) c.no_code_reply.result (λ reply kept. record {
      outcome = no_code refusal;
      is_outcome = inl (c.utf8.text, c.in-Err-Refused.ensures.refused refusal (cc));
      has_status = kept.has_status;
      has_text = kept.has_text;
      is_file = kept.is_file;
    }) c.no_code_reply.ensures
