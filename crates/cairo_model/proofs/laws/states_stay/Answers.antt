use Rattle.cairo_model.proofs.RunsStay as stay
use Rattle.cairo_model.proofs.laws.states_stay.Goals as goal

pub returns : goal.returns
returns c = stay.states_stay
