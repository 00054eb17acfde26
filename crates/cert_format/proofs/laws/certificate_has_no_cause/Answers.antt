use Rattle.cert_format.proofs.CauseLaws.{certificate_has_no_cause}
use Rattle.cert_format.proofs.laws.certificate_has_no_cause.Goals as goal

pub returns : goal.returns
returns c = certificate_has_no_cause
