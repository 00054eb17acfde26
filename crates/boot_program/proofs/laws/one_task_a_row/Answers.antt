use Rattle.boot_program.proofs.OrderLaws.{one_task}
use Rattle.boot_program.proofs.laws.one_task_a_row.Goals as goal

pub returns : goal.returns
returns c = one_task
