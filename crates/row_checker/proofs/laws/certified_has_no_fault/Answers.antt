use Rattle.row_checker.proofs.FaultLaws.{no_batch_fault}
use Rattle.row_checker.proofs.laws.certified_has_no_fault.Goals as goal

pub returns : goal.returns
returns c = no_batch_fault
