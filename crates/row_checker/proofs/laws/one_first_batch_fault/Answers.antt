use Rattle.row_checker.proofs.FaultLaws.{one_batch_fault}
use Rattle.row_checker.proofs.laws.one_first_batch_fault.Goals as goal

pub returns : goal.returns
returns c = one_batch_fault
