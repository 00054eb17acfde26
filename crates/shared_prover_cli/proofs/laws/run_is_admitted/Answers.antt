use Rattle.std.proofs.Common.{sym, ◌∙◌}
use Rattle.shared_prover_cli.proofs.RunLemmas.{admitted_outcome}
use Rattle.shared_prover_cli.proofs.laws.run_is_admitted.Goals as goal

pub returns : goal.returns
returns c input reply desk p done = admitted_outcome input reply.text p.0.outcome p.0.is_outcome p.0.is_file (sym p.0.has_status ∙ done)
