use Rattle.std.proofs.Common.{◌∷◌}
use Rattle.batch_runner.specs.Certificates.{cert_of}
use Rattle.cairo_model.specs.Certificate.Records.{HasSpelling}
use Rattle.batch_runner.proofs.Counting as made
use Rattle.batch_runner.proofs.Accepted.{of_tasks}
use Rattle.batch_runner.proofs.Within.{within}
use Rattle.batch_runner.proofs.laws.batch_is_spelled.Goals as goal

pub returns : goal.returns
returns c = of_tasks (λ t ts. HasSpelling (cert_of t ts)) (λ t ts batch. made.spelled c.task_passes.ensures t ts (within (t ∷ ts) batch))
