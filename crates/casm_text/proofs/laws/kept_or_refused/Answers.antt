use Rattle.casm_text.proofs.Deciding as lemmas
use Rattle.casm_text.proofs.laws.kept_or_refused.Goals as goal

pub returns : goal.returns
returns c = lemmas.kept_or_refused
