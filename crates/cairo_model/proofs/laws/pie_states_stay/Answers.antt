use Rattle.cairo_model.proofs.RunsStay as stay
use Rattle.cairo_model.proofs.laws.pie_states_stay.Goals as goal

pub returns : goal.returns
returns c = stay.pie_states_stay
