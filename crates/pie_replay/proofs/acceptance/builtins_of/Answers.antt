use Rattle.pie_replay.proofs.FullSegments.{has_instances, has_range_cells}
use Rattle.pie_replay.proofs.acceptance.builtins_of.Goals as goal

pub returns-clause-range : goal.returns-clause-range
returns-clause-range c = has_range_cells c.args.pie.now c.in_default.ensures.none

pub returns-clause-hash : goal.returns-clause-hash
returns-clause-hash c = has_instances c.args.pie.now c.in_default-bad_instance.ensures.none
