use Rattle.std.proofs.Common.{◌∷◌}
use Rattle.batch_runner.specs.Certificates.{cert_of}
use Rattle.boot_program.specs.Batch.Order.{InOrder}
use Rattle.batch_runner.proofs.ByIndex as index
use Rattle.batch_runner.proofs.Ordering as made
use Rattle.batch_runner.specs.Working.Tasks.{checked_of}
use Rattle.batch_runner.proofs.Accepted.{of_tasks}
use Rattle.batch_runner.proofs.Within.{within}
use Rattle.batch_runner.proofs.laws.tasks_in_order.Goals as goal

pub returns : goal.returns
returns c = of_tasks (λ t ts. InOrder (cert_of t ts) (t ∷ ts)) (λ t ts batch. index.in_order (cert_of t.checked (checked_of ts)) (t ∷ ts) (made.rows_in_order c.task_passes.ensures t ts (within (t ∷ ts) batch)))
