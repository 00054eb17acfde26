use Rattle.std.proofs.Common.{◌∷◌}
use Rattle.batch_runner.specs.Certificates.{cert_of}
use Rattle.boot_program.specs.Batch.Standing.{AllStandIn}
use Rattle.batch_runner.proofs.ByIndex as index
use Rattle.batch_runner.proofs.Counting as made
use Rattle.batch_runner.specs.Working.Tasks.{checked_of}
use Rattle.batch_runner.proofs.Accepted.{of_tasks}
use Rattle.batch_runner.proofs.Within.{within}
use Rattle.batch_runner.proofs.laws.tasks_stand_in.Goals as goal

pub returns : goal.returns
returns c = of_tasks (λ t ts. AllStandIn (cert_of t ts) (t ∷ ts)) (λ t ts batch. index.all_stand_in (cert_of t.checked (checked_of ts)) (t ∷ ts) (made.all_stand_in c.task_passes.ensures t ts (within (t ∷ ts) batch)))
