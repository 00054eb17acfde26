use Rattle.seg_runner.proofs.OneAnswer.{one_answer}
use Rattle.seg_runner.proofs.laws.one_run_answer.Goals as goal

pub returns : goal.returns
returns c = λ words main limit. one_answer words main limit c.accepted_has_no_cause.ensures c.one_first_replay_cause.ensures
