use Rattle.boot_program.proofs.PassingLaws.{rows_law}
use Rattle.boot_program.proofs.laws.rows_law.Goals as goal

pub returns : goal.returns
returns c = rows_law
