use Rattle.cairo_model.proofs.TypeFacts.{cells_kept}
use Rattle.cairo_model.proofs.kept.cells_kept.Goals as goal

pub returns : goal.returns
returns c = cells_kept c.args.cells.now
