use Rattle.made_scripts.proofs.MadeScripts.{made_is_script}
use Rattle.made_scripts.proofs.laws.made_script_is_script.Goals as goal

pub returns : goal.returns
returns c = made_is_script
