use Rattle.std.proofs.Common.{Ok, Err, refl, ap, subst, ◌∙◌}
use Rattle.cairo_model.specs.Pie.Files.{PieBytes}
use Rattle.pie_format.specs.Writing.{file_of}
use Rattle.seg_runner.specs.Views.{run_cause}
use Rattle.shared_prover_cli.proofs.answers.run.code_answer.Goals as goal

-- the file of the PIE
pub returns-in_ok-write-in-Ok : goal.returns-in_ok-write-in-Ok
returns-in_ok-write-in-Ok c = record {
  outcome = Ok c.in-Ok.checked.pie;
  is_answer = c.in-Ok.ensures.ok;
  tells = record {
    has_status = refl;
    has_text = c.in_ok-write-in-Ok.ensures.layout ∙ ap file_of c.pie.ensures;
    is_file = subst (PieBytes c.in_ok-write-in-Ok.field-0.items) c.pie.ensures c.in_ok-write-in-Ok.ensures.file;
  };
}

-- the line of the refusal
pub returns-in_ok-execution_line-in-Err-Refused : goal.returns-in_ok-execution_line-in-Err-Refused
returns-in_ok-execution_line-in-Err-Refused c = record {
  outcome = Err (run_cause c.in-Err-Refused.refusal);
  is_answer = c.in-Err-Refused.ensures.refused c.in-Err-Refused.refusal (cc);
  tells = record { has_status = refl; has_text = c.in_ok-execution_line-in-Err-Refused.ensures; is_file = tt };
}
