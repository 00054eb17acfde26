use Rattle.pie_replay.proofs.Causes.{no_cause}
use Rattle.pie_replay.proofs.laws.accepted_has_no_cause.Goals as goal

pub returns : goal.returns
returns c = λ pie accepted. no_cause pie accepted.0 accepted.1.0 accepted.1.1
