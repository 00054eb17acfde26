use Rattle.made_scripts.proofs.MadeScripts.{made_admitted}
use Rattle.made_scripts.proofs.laws.made_lines_are_admitted.Goals as goal

pub returns : goal.returns
returns c = made_admitted
