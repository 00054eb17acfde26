use Rattle.cert_format.proofs.Causes.{one_first_cert_cause}
use Rattle.cert_format.proofs.laws.one_first_cert_cause.Goals as goal

pub returns : goal.returns
returns c = one_first_cert_cause
