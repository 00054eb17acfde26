use Rattle.row_checker.proofs.FaultLaws.{one_run_fault}
use Rattle.row_checker.proofs.laws.one_first_run_fault.Goals as goal

pub returns : goal.returns
returns c = one_run_fault
