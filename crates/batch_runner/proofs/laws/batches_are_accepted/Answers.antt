use Rattle.std.proofs.Common.{◌∷◌}
use Rattle.batch_runner.specs.Certificates.{cert_of}
use Rattle.boot_program.specs.Batch.Acceptance.{AcceptsBatch}
use Rattle.batch_runner.proofs.Honest as made
use Rattle.batch_runner.proofs.Accepted.{of_tasks}
use Rattle.batch_runner.proofs.Within.{within}
use Rattle.batch_runner.proofs.laws.batches_are_accepted.Goals as goal

pub returns : goal.returns
returns c = of_tasks (λ t ts. AcceptsBatch (cert_of t ts) (t ∷ ts)) (λ t ts batch. made.honest c.task_passes.ensures t ts (within (t ∷ ts) batch))
