use Rattle.cairo_model.proofs.StepCauses.{fault_forms_agree}
use Rattle.cairo_model.proofs.laws.fault_forms_agree.Goals as goal

pub returns : goal.returns
returns g c = fault_forms_agree
