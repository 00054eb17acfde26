use Rattle.std.proofs.Common.{refl}
use Rattle.cert_format.specs.Spelling.{CertBytes, spelling}
use Rattle.cert_format.proofs.CauseLaws.{certificate_has_no_cause}
use Rattle.cert_format.proofs.CertLaws.{one_certificate}
use Rattle.cert_format.proofs.laws.reads_back.Goals as goal

pub returns : goal.returns
returns c = λ cert kept.
    let file : CertBytes (spelling cert) cert = record { is_certificate = kept; spelled = refl } in
    (λ r. certificate_has_no_cause (spelling cert) cert r file, λ other theirs. one_certificate (spelling cert) other cert theirs file)
