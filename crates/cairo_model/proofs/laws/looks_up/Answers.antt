use Rattle.cairo_model.proofs.CellLemmas as cells
use Rattle.cairo_model.proofs.laws.looks_up.Goals as goal

pub returns : goal.returns
returns c = cells.looks_up
