use Rattle.std.proofs.Common.{refl, ap, ◌∙◌}
use Rattle.shared_prover_cli.specs.Answers.Boot.{word_lines}
use Rattle.shared_prover_cli.proofs.answers.boot.boot_answer.Goals as goal

pub returns : goal.returns
returns c = record {
  has_status = refl;
  has_text = c.in_ok-text.ensures ∙ ap word_lines c.boot_words.ensures;
}
