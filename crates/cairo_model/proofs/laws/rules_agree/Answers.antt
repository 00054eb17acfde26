use Rattle.cairo_model.specs.Machine.Steps.{field_arithmetic, value_arithmetic}
use Rattle.cairo_model.proofs.Inversion.{field_exact, value_exact}
use Rattle.cairo_model.proofs.Rules.{rule_agrees}
use Rattle.cairo_model.proofs.laws.rules_agree.Goals as goal

pub returns : goal.returns
returns c = (rule_agrees field_arithmetic field_exact, rule_agrees value_arithmetic value_exact)
