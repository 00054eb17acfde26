use Rattle.cairo_model.proofs.FieldFaults.{never_in_field}
use Rattle.cairo_model.proofs.laws.field_faults.Goals as goal

pub returns : goal.returns
returns c = never_in_field
