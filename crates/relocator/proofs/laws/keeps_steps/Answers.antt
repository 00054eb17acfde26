use Rattle.relocator.proofs.Homomorphism.{keeps}
use Rattle.relocator.proofs.laws.keeps_steps.Goals as goal

pub returns : goal.returns
returns c = keeps c.keeps_arithmetic.ensures
