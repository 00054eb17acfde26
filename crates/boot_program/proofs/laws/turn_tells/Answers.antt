use Rattle.boot_program.proofs.TurnLaws as turns
use Rattle.boot_program.proofs.laws.turn_tells.Goals as goal

pub returns : goal.returns
returns c = turns.turn_gives
