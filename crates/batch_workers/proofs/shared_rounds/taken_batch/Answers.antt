use Rattle.batch_workers.proofs.PassTakes.{take_err, take_ok}
use Rattle.batch_workers.proofs.shared_rounds.taken_batch.Goals as goal

pub returns-in-Ok-clause-took : goal.returns-in-Ok-clause-took
returns-in-Ok-clause-took g c = take_ok c.args.pass.now c.take.new.pass _ c.requires.idle c.in-Ok.ensures.turn

pub returns-in-Err-clause-took : goal.returns-in-Err-clause-took
returns-in-Err-clause-took g c = take_err c.args.pass.now c.take.new.pass c.in-Err.field-0 c.in-Err.ensures.turn
