use Rattle.std.proofs.Common.{sym, ◌∙◌}
use Rattle.desk_core.proofs.SameLists.{task_is}
use Rattle.desk_core.proofs.same_tasks.same_task.Goals as goal

pub returns-clause-tasks : goal.returns-clause-tasks
returns-clause-tasks c = λ same.
    task_is c.args.one.now c.args.other.now c.states.ensures.accepted c.states-2.ensures.accepted (sym c.pie.ensures ∙ (c.same_pie.ensures.0 same ∙ c.pie-2.ensures))
