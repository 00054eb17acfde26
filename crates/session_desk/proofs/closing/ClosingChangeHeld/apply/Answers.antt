use Rattle.session_desk.proofs.Adding.{adds_one}
use Rattle.session_desk.proofs.closing.ClosingChangeHeld.apply.Goals as goal

pub returns-clause-adds : goal.returns-clause-adds
returns-clause-adds c = adds_one _ _ c.args.number _ _ c.close.result c.close.ensures.ok c.close.ensures.err
