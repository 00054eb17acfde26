use Rattle.batch_plan.proofs.TasksApart as tasks
use Rattle.batch_plan.proofs.laws.plans_hold.Goals as goal

pub returns : goal.returns
returns c = tasks.plan_holds
