use Rattle.cairo_model.proofs.RunLaws as runs
use Rattle.cairo_model.proofs.laws.one_acceptance.Goals as goal

pub returns : goal.returns
returns c = runs.one_acceptance
