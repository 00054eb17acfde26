use Rattle.pie_replay.proofs.FullSegments.{has_each}
use Rattle.pie_replay.proofs.Stages.{passes_on}
use Rattle.pie_replay.proofs.acceptance.outputs_of.Goals as goal

pub returns-in-Ok-clause-passes : goal.returns-in-Ok-clause-passes
returns-in-Ok-clause-passes c = passes_on c.args.pie.now 23 c.requires.passed (has_each c.args.pie.now.cells 2 _ _ c.in-Ok.ensures.full)
