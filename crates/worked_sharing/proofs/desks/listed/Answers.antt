use Rattle.worked_sharing.proofs.ThreeNumbers.{three_numbers}
use Rattle.worked_sharing.proofs.desks.listed.Goals as goal

pub returns-clause-each : goal.returns-clause-each
returns-clause-each c = three_numbers c.args.first c.args.second c.args.third c.in_ok-list.list.items c.in_ok-list.ensures.items c.requires.numbers.0 c.requires.numbers.1 c.requires.numbers.2 c.args.desk.now.passes c.requires.three
