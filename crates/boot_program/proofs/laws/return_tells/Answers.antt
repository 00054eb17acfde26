use Rattle.boot_program.proofs.ReturnLaws.{home_gives}
use Rattle.boot_program.proofs.laws.return_tells.Goals as goal

pub returns : goal.returns
returns c = λ m boot ap f caller return_is caller_is. home_gives m boot ap f caller return_is caller_is
