use Rattle.std.proofs.Common.{true, false}
use Rattle.batch_workers.proofs.Returning.{gave_back, still_held, then_back}
use Rattle.batch_workers.proofs.working.handed_back_again.Goals as goal

pub returns-in-Ok-clause-back : goal.returns-in-Ok-clause-back
returns-in-Ok-clause-back c = λ pies h.
    then_back c.args.pass c.args.batch pies c.args.desk.now c.loop.desk c.give_back.new.self true h (c.loop.invariant.0 pies h)
    (λ now. gave_back c.args.pass c.loop.desk c.give_back.new.self c.args.batch pies c.in-Ok.field-0 c.in-Ok.ensures.ok now)

pub loop-preserved : goal.loop-preserved
loop-preserved c = (
  λ pies h.
      then_back c.args.pass c.args.batch pies c.args.desk.now c.loop.desk c.give_back.new.self false h (c.loop.invariant.0 pies h)
      (λ now. still_held c.args.pass c.loop.desk c.give_back.new.self c.args.batch pies c.in-Err.ensures.err),
  c.in-Err.ensures.good.1,
)
