use Rattle.relocator.proofs.LoneLayout.{lone_fits}
use Rattle.relocator.proofs.lone_layout.lone_layout_fits.Goals as goal

pub returns : goal.returns
returns c = lone_fits
