use Rattle.cert_format.proofs.CauseLaws.{certificate_or_cause}
use Rattle.cert_format.proofs.laws.certificate_or_cause.Goals as goal

pub returns : goal.returns
returns c = certificate_or_cause
