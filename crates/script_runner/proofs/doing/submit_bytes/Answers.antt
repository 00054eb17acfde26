use Rattle.script_runner.proofs.DeskSteps.{submitted}
use Rattle.script_runner.proofs.doing.submit_bytes.Goals as goal

pub returns-clause-did : goal.returns-clause-did
returns-clause-did c =
    submitted c.args.client c.args.bytes.now c.args.desk.now c.submit.new.self c.in_ok-offer.offer c.in_ok-submit.field-0 c.in_ok-offer.ensures c.in_ok-submit.ensures.ok c.requires.free
