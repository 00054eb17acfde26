use Rattle.shared_prover_cli.proofs.ScriptLemmas.{lines_below_clients}
use Rattle.shared_prover_cli.proofs.answers.serve.served.Goals as goal

-- each line of a script is a client's
pub serve_script-requires-clause-clients : goal.serve_script-requires-clause-clients
serve_script-requires-clause-clients g c = λ κs lives. lines_below_clients c.in-Ok.script.lines.items c.args.clients c.args.bytes.now c.in-Ok.ensures.script
