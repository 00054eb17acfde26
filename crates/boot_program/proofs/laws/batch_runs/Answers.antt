use Rattle.boot_program.proofs.BatchLaws as batches
use Rattle.boot_program.proofs.laws.batch_runs.Goals as goal

pub returns : goal.returns
returns c = batches.batch_goes
