use Rattle.casm_text.proofs.OneLine as lemmas
use Rattle.casm_text.proofs.laws.one_line.Goals as goal

pub returns : goal.returns
returns c = lemmas.same_line
