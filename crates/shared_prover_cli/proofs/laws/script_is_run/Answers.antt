use Rattle.script_runner.specs.Runs.{RunsScript}
use Rattle.script_runner.specs.Serving.{ServesScript}
use Rattle.shared_prover_cli.proofs.ScriptRun.{batch_runs, export_runs}
use Rattle.shared_prover_cli.proofs.laws.script_is_run.Goals as goal

pub returns-clause-batch : goal.returns-clause-batch
returns-clause-batch c = batch_runs c.script_is_not_refused.ensures RunsScript

pub returns-clause-export : goal.returns-clause-export
returns-clause-export c = export_runs c.script_is_not_refused.ensures

pub returns-clause-serve : goal.returns-clause-serve
returns-clause-serve c = λ clients workers. batch_runs c.script_is_not_refused.ensures ServesScript clients
