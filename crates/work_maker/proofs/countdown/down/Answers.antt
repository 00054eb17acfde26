use Rattle.std.proofs.Common.{sym, subst}
use Rattle.cairo_model.specs.Pie.Records.{KeepsRules}
use Rattle.work_maker.proofs.DownRules.{down_rules}
use Rattle.work_maker.proofs.countdown.down.Goals as goal

pub returns-clause-rules : goal.returns-clause-rules
returns-clause-rules c = subst KeepsRules (sym c.in_ok-pie.ensures) (down_rules c.args.rounds c.requires)
