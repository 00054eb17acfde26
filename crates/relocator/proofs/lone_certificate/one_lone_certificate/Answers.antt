use Rattle.relocator.proofs.OnePlacement as placements
use Rattle.relocator.proofs.lone_certificate.one_lone_certificate.Goals as goal

pub returns : goal.returns
returns c = placements.one_lone_certificate
