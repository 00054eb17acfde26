use Rattle.cert_format.proofs.CertLaws.{one_certificate}
use Rattle.cert_format.proofs.laws.one_certificate.Goals as goal

pub returns : goal.returns
returns c = one_certificate
