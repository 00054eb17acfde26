use Rattle.cairo_model.specs.Machine.Steps.{field_arithmetic, value_arithmetic}
use Rattle.cairo_model.proofs.Inversion.{agree, field_exact, value_exact}
use Rattle.cairo_model.proofs.laws.forms_agree.Goals as goal

pub returns : goal.returns
returns c = (agree field_arithmetic field_exact, agree value_arithmetic value_exact)
