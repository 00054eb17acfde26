use Rattle.script_runner.specs.Serving.{ServesScript}
use Rattle.shared_prover_cli.proofs.ScriptRun.{did_at_done}
use Rattle.shared_prover_cli.proofs.laws.script_is_served.Goals as goal

pub returns : goal.returns
returns c = λ clients workers. did_at_done ServesScript clients
