use Rattle.row_checker.proofs.FaultLaws.{no_run_fault}
use Rattle.row_checker.proofs.laws.accepted_has_no_fault.Goals as goal

pub returns : goal.returns
returns c = no_run_fault
