use Rattle.batch_workers.proofs.Returning.{wanted}
use Rattle.batch_workers.proofs.SealRounds.{seal_ends}
use Rattle.batch_workers.proofs.working.seal_next.Goals as goal

pub returns-in-Err-clause-done : goal.returns-in-Err-clause-done
returns-in-Err-clause-done c = wanted c.args.pass c.args.desk.now c.seal.new.self c.in-Err.ensures.err

pub returns-in-Ok-clause-done : goal.returns-in-Ok-clause-done
returns-in-Ok-clause-done c =
    seal_ends c.args.pass c.args.desk.now c.seal.new.self c.in-Ok.reply c.in-Ok.ensures.good.0 c.requires.idle c.requires.none c.in-Ok.ensures.ok c.sealed.result c.sealed.ensures
