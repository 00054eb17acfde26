use Rattle.batch_workers.proofs.PassReturns.{back_busy}
use Rattle.batch_workers.proofs.PassRounds.{after_refusal}
use Rattle.batch_workers.proofs.shared_rounds.give_uncertified.Goals as goal

pub returns-in-OutOfMemory : goal.returns-in-OutOfMemory
returns-in-OutOfMemory g c = back_busy c.args.pass.now c.given_back-back.new.pass c.args.batch c.given_back-back.result c.given_back-back.ensures

pub returns-in-Refused : goal.returns-in-Refused
returns-in-Refused g c =
    after_refusal c.args.pass.now c.given_back-back.new.pass c.args.batch c.given_back-back.result c.in-Refused.fault c.args.end c.after_fault.result c.in-Refused.is c.given_back-back.ensures c.after_fault.ensures
