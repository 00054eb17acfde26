use Rattle.boot_program.proofs.Listed.{is_listed, are_calls}
use Rattle.boot_program.proofs.laws.boot_is_listed.Goals as goal

pub returns-clause-listed : goal.returns-clause-listed
returns-clause-listed c = is_listed

pub returns-clause-calls : goal.returns-clause-calls
returns-clause-calls c = are_calls
