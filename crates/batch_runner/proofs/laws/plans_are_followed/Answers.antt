use Rattle.std.proofs.Common.{◌∷◌}
use Rattle.batch_runner.specs.Certificates.{cert_of}
use Rattle.batch_runner.specs.Laws.{FollowsPlan}
use Rattle.batch_plan.specs.Parts.{sizes_of_all}
use Rattle.batch_plan.specs.Plans.{plan_of}
use Rattle.batch_runner.proofs.ByPlan as plan
use Rattle.batch_runner.proofs.Accepted.{of_tasks}
use Rattle.batch_runner.proofs.laws.plans_are_followed.Goals as goal

pub returns : goal.returns
returns c = of_tasks (λ t ts. FollowsPlan (cert_of t ts) (plan_of (sizes_of_all (t ∷ ts)))) (λ t ts batch. plan.follows t ts)
