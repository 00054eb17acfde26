use Rattle.session_desk.proofs.Adding.{adds_taken, taking_done}
use Rattle.session_desk.proofs.taking.TakingChangeHeld.apply.Goals as goal

pub returns-clause-does : goal.returns-clause-does
returns-clause-does c = (c.take.ensures.good, taking_done _ _ c.args.number c.take.result c.take.ensures.ok c.take.ensures.parcel c.take.ensures.err)

pub returns-clause-adds : goal.returns-clause-adds
returns-clause-adds c = adds_taken _ _ c.args.number c.take.result (taking_done _ _ c.args.number c.take.result c.take.ensures.ok c.take.ensures.parcel c.take.ensures.err)
