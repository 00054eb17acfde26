use Rattle.cairo_model.proofs.FactLemmas.{forms_agree}
use Rattle.cairo_model.proofs.laws.fact_forms_agree.Goals as goal

pub returns : goal.returns
returns c = forms_agree
