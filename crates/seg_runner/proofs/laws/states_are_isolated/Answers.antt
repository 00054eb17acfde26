use Rattle.seg_runner.proofs.IsolatedStates.{isolated}
use Rattle.seg_runner.proofs.laws.states_are_isolated.Goals as goal

pub returns : goal.returns
returns c = isolated
