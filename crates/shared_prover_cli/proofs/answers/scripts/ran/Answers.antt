use Rattle.shared_prover_cli.proofs.ScriptLemmas.{lines_below_clients}
use Rattle.shared_prover_cli.proofs.answers.scripts.ran.Goals as goal

-- each line of a script is a client's
pub run_script-requires-clause-clients : goal.run_script-requires-clause-clients
run_script-requires-clause-clients g c = λ κs lives. lines_below_clients c.in-Ok.script.lines.items c.args.clients c.args.bytes.now c.in-Ok.ensures.script
