use Rattle.boot_program.proofs.OwnLaws.{turn_cells}
use Rattle.boot_program.proofs.laws.frame_holds.Goals as goal

pub returns : goal.returns
returns c = turn_cells
