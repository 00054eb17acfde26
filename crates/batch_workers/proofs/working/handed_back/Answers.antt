use Rattle.batch_workers.proofs.Returning.{gave_back, still_held, then_back}
use Rattle.batch_workers.proofs.working.handed_back.Goals as goal

pub returns-in-Ok-clause-back : goal.returns-in-Ok-clause-back
returns-in-Ok-clause-back c = λ pies h. gave_back c.args.pass c.args.desk.now c.give_back.new.self c.args.batch pies c.in-Ok.field-0 c.in-Ok.ensures.ok h

pub returns-in-Err-clause-back : goal.returns-in-Err-clause-back
returns-in-Err-clause-back c = λ pies h.
    then_back c.args.pass c.args.batch pies c.args.desk.now c.give_back.new.self c.handed_back_again.new.desk c.handed_back_again.result h
    (still_held c.args.pass c.args.desk.now c.give_back.new.self c.args.batch pies c.in-Err.ensures.err)
    (λ now. c.handed_back_again.ensures.back pies now)
