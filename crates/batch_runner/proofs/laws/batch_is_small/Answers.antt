use Rattle.std.proofs.Common.{◌∷◌}
use Rattle.batch_runner.specs.Certificates.{IsSmall, cert_of}
use Rattle.batch_runner.proofs.Counting as made
use Rattle.batch_runner.proofs.Accepted.{of_tasks}
use Rattle.batch_runner.proofs.Within.{within}
use Rattle.batch_runner.proofs.laws.batch_is_small.Goals as goal

pub returns : goal.returns
returns c = of_tasks (λ t ts. IsSmall (cert_of t ts) (t ∷ ts)) (λ t ts batch. made.counted c.task_passes.ensures t ts (within (t ∷ ts) batch))
