use Rattle.batch_workers.proofs.PassTakes.{seal_err, seal_ok}
use Rattle.batch_workers.proofs.shared_rounds.seal_waiting.Goals as goal

pub returns-in-Ok : goal.returns-in-Ok
returns-in-Ok g c = seal_ok c.args.pass.now c.seal.new.pass c.in-Ok.reply c.after_sealing.result c.requires.idle c.in-Ok.ensures.turn c.after_sealing.ensures

pub returns-in-Err : goal.returns-in-Err
returns-in-Err g c = seal_err c.args.pass.now c.seal.new.pass c.in-Err.field-0 c.in-Err.ensures.turn
