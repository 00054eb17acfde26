use Rattle.cairo_model.proofs.RunsStay as stay
use Rattle.cairo_model.proofs.laws.values_stay.Goals as goal

pub returns : goal.returns
returns c = stay.values_stay
