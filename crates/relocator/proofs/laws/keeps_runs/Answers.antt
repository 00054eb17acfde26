use Rattle.relocator.proofs.Homomorphism.{run}
use Rattle.relocator.proofs.laws.keeps_runs.Goals as goal

pub returns : goal.returns
returns c = run c.keeps_arithmetic.ensures
