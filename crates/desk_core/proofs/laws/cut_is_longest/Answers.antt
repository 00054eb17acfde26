use Rattle.desk_core.proofs.CutLemmas as lemmas
use Rattle.desk_core.proofs.laws.cut_is_longest.Goals as goal

pub returns : goal.returns
returns c = lemmas.cut_is_longest
