use Rattle.goldi_field.proofs.Prime.{zero_product}
use Rattle.goldi_field.proofs.laws.no_zero_products.Goals as goal

pub returns : goal.returns
returns c = zero_product
