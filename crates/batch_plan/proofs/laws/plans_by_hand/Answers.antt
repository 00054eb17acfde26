use Rattle.std.proofs.Common.{refl}
use Rattle.batch_plan.specs.Plans.{bases_of_all, bases_on}
use Rattle.batch_plan.proofs.laws.plans_by_hand.Goals as goal

pub returns : goal.returns
unfolding bases_of_all bases_on
returns c = record { five = refl; empty_five_five = refl; tall_five = refl }
