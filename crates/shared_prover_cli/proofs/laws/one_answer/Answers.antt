use Rattle.shared_prover_cli.proofs.OneAnswer as answers
use Rattle.shared_prover_cli.proofs.OneOutcome as outcomes
use Rattle.shared_prover_cli.proofs.laws.one_answer.Goals as goal

pub returns : goal.returns
returns c = answers.one_answer c.one_verdict.ensures c.one_lone_certificate.ensures c.one_certificate.ensures c.one_first_cert_cause.ensures c.one_first_run_fault.ensures c.one_listing.ensures (outcomes.one_outcome c.one_first_cause.ensures c.one_assembly.ensures c.assembles_without_cause.ensures c.one_run_answer.ensures)
