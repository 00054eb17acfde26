use Rattle.session_desk.proofs.Adding.{adds_one}
use Rattle.session_desk.proofs.returning.ReturningChangeHeld.apply.Goals as goal

pub returns-clause-adds : goal.returns-clause-adds
returns-clause-adds c = adds_one _ _ c.args.number _ _ c.give_back.result c.give_back.ensures.ok c.give_back.ensures.err
