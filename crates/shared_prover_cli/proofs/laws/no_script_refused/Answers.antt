use Rattle.shared_prover_cli.proofs.OneAnswer as answers
use Rattle.shared_prover_cli.proofs.laws.no_script_refused.Goals as goal

pub returns : goal.returns
returns c = answers.no_script
