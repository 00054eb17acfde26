use Rattle.std.proofs.Common.{◌∷◌}
use Rattle.batch_runner.specs.Laws.{AreBatchCells}
use Rattle.batch_runner.specs.Memory.{all_cells}
use Rattle.batch_runner.proofs.Limits as limits
use Rattle.batch_runner.proofs.Accepted.{of_tasks}
use Rattle.batch_runner.proofs.Within.{within}
use Rattle.batch_runner.proofs.laws.batch_cells_rise.Goals as goal

pub returns : goal.returns
returns c = of_tasks (λ t ts. AreBatchCells (all_cells (t ∷ ts))) (λ t ts batch. limits.batch_cells (t ∷ ts) (within (t ∷ ts) batch))
