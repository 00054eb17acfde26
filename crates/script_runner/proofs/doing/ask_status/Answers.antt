use Rattle.script_runner.proofs.DeskSteps.{asked_status}
use Rattle.script_runner.proofs.doing.ask_status.Goals as goal

pub returns-clause-did : goal.returns-clause-did
returns-clause-did c = asked_status c.args.client c.args.number c.args.desk.now c.status.new.self c.in_ok-status.field-0 c.in_ok-status.ensures.ok c.requires.free
