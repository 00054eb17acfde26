use Rattle.desk_core.proofs.PlainTurns.{is_told}
use Rattle.desk_core.proofs.ask.is_held.Goals as goal

pub returns : goal.returns
returns c = is_told c.holds.result c.args.registry.now c.args.fact.now c.holds.ensures
