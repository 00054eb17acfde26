use Rattle.pie_replay.proofs.Causes.{one_first_replay_cause}
use Rattle.pie_replay.proofs.laws.one_first_replay_cause.Goals as goal

pub returns : goal.returns
returns c = one_first_replay_cause
