use Rattle.std.proofs.Common.{◌≡◌, ◌+◌, length, map, refl, ap, ◌∙◌, arith}
use Rattle.cairo_model.specs.Certificate.Records.{CertRecord}
use Rattle.cairo_model.specs.Views.Certificate.{kind_of}
use Rattle.shared_prover_cli.specs.Answers.CheckTexts.{accepted_text}
use Rattle.shared_prover_cli.proofs.CheckLemmas.{has_state}
use Rattle.shared_prover_cli.proofs.answers.check.accepted.Goals as goal

pub returns : goal.returns
returns c =
    let cert = c.args.cert.now in
    let count : length c.args.cert.now.states ≡ c.steps_of.result + 1 = omega (arith, has_state cert c.requires, c.steps_of.ensures) in
    let kinds : kind_of c.cert.inside.kind ≡ c.args.cert.now.kind = ap (λ (r : CertRecord). r.kind) c.cert.view_is in
    record {
      steps = c.steps_of.result;
      outputs = map (λ f. f.number) c.in_ok-outputs.outputs.items;
      count = count;
      holds = c.in_ok-outputs.ensures;
      has_status = refl;
      has_text = c.in_ok-accepted_line.ensures ∙ (λ i. accepted_text (kinds i) c.steps_of.result (map (λ f. f.number) (c.as_slice.ensures.value i)));
    }
