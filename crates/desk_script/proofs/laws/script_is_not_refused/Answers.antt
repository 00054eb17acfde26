use Rattle.desk_script.proofs.OneReading as lemmas
use Rattle.desk_script.proofs.laws.script_is_not_refused.Goals as goal

pub returns : goal.returns
returns c = lemmas.script_is_not_refused
