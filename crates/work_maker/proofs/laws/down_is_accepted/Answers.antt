use Rattle.work_maker.proofs.DownAccepted.{down_accepted}
use Rattle.work_maker.proofs.laws.down_is_accepted.Goals as goal

pub returns : goal.returns
returns c = down_accepted
