use Rattle.cairo_model.proofs.TypeFacts.{states_kept}
use Rattle.cairo_model.proofs.kept.states_kept.Goals as goal

pub returns : goal.returns
returns c = states_kept c.args.states.now
