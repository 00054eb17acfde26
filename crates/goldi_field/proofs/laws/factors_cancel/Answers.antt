use Rattle.goldi_field.proofs.Prime.{cancel}
use Rattle.goldi_field.proofs.laws.factors_cancel.Goals as goal

pub returns : goal.returns
returns c = cancel
