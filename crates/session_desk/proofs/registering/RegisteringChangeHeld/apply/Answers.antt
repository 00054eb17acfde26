use Rattle.session_desk.proofs.Adding.{adds_registered}
use Rattle.session_desk.proofs.registering.RegisteringChangeHeld.apply.Goals as goal

pub returns-clause-adds : goal.returns-clause-adds
returns-clause-adds c = adds_registered _ _ c.args.number c.args.self.batch c.args.self.certified c.register.result c.register.ensures.end
