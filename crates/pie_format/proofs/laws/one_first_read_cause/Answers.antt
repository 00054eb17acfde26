use Rattle.pie_format.proofs.Causes.{one_first_read_cause}
use Rattle.pie_format.proofs.laws.one_first_read_cause.Goals as goal

pub returns : goal.returns
returns c = one_first_read_cause
