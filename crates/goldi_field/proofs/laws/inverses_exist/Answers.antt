use Rattle.goldi_field.proofs.Prime.{inverse}
use Rattle.goldi_field.proofs.laws.inverses_exist.Goals as goal

pub returns : goal.returns
returns c = inverse
