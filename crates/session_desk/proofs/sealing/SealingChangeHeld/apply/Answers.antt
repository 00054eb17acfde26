use Rattle.session_desk.proofs.Adding.{adds_one}
use Rattle.session_desk.proofs.sealing.SealingChangeHeld.apply.Goals as goal

pub returns-clause-adds : goal.returns-clause-adds
returns-clause-adds c = adds_one _ _ c.args.number _ _ c.seal.result c.seal.ensures.ok c.seal.ensures.err
