use Rattle.pie_replay.proofs.Verdicts as verdicts
use Rattle.pie_replay.proofs.laws.one_verdict.Goals as goal

pub returns : goal.returns
returns c = verdicts.one_verdict c.one_pie.ensures c.pie_has_no_cause.ensures c.one_first_read_cause.ensures
