use Rattle.cairo_model.specs.Machine.Steps.{field_arithmetic, value_arithmetic}
use Rattle.cairo_model.proofs.RunParts as parts
use Rattle.cairo_model.proofs.laws.runs_by_parts.Goals as goal

pub returns : goal.returns
returns c = (parts.runs_by_parts field_arithmetic, parts.runs_by_parts value_arithmetic)
