use Rattle.work_maker.proofs.DownRules.{down_rules}
use Rattle.work_maker.proofs.laws.down_keeps_rules.Goals as goal

pub returns : goal.returns
returns c = down_rules
