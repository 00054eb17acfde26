use Rattle.pie_format.proofs.CausesLaws.{no_cause}
use Rattle.pie_format.proofs.laws.pie_has_no_cause.Goals as goal

pub returns : goal.returns
returns c = no_cause
