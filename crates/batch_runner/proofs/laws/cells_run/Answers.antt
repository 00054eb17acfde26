use Rattle.std.proofs.Common.{◌∷◌, arith}
use Rattle.batch_runner.specs.Laws.{CellsFromEntryToEnd}
use Rattle.batch_runner.proofs.Limits as limits
use Rattle.batch_runner.proofs.WholeBatch as whole
use Rattle.batch_runner.proofs.Accepted.{of_tasks}
use Rattle.batch_runner.proofs.Within.{within}
use Rattle.batch_runner.proofs.laws.cells_run.Goals as goal

pub returns : goal.returns
returns c = of_tasks (λ t ts. CellsFromEntryToEnd t ts) (λ t ts batch. let limit = within (t ∷ ts) batch in let few = limit.few_tasks in whole.batch_runs c.task_passes.ensures t ts (limits.free_few (t ∷ ts) limit) (omega (arith, few)))
