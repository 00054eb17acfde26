use Rattle.cairo_model.proofs.TypeFacts.{felts_kept}
use Rattle.cairo_model.proofs.kept.felts_kept.Goals as goal

pub returns : goal.returns
returns c = felts_kept c.args.felts.now
