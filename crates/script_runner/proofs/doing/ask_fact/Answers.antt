use Rattle.script_runner.proofs.DeskSteps.{asked}
use Rattle.script_runner.proofs.doing.ask_fact.Goals as goal

pub returns-clause-did : goal.returns-clause-did
returns-clause-did c = asked c.args.client c.args.fact.now c.args.desk.now c.ask.new.self c.in_ok-ask.field-0 c.in_ok-ask.ensures.ok c.requires.free
