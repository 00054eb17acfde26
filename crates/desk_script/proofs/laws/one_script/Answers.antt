use Rattle.desk_script.proofs.OneReading as lemmas
use Rattle.desk_script.proofs.laws.one_script.Goals as goal

pub returns : goal.returns
returns c = lemmas.one_script
