use Rattle.relocator.proofs.LoneCertificate.{holds}
use Rattle.relocator.proofs.lone_certificate.lone_certificates_hold.Goals as goal

pub returns : goal.returns
returns c = holds c.keeps_arithmetic.ensures c.runs_anywhere.ensures c.lone_layout_fits.ensures
