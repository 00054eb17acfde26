use Rattle.std.proofs.Common.{true, false}
use Rattle.batch_workers.proofs.PassReturns.{not_tried, tried_then, was_given_back, was_not_given_back}
use Rattle.batch_workers.proofs.shared_rounds.given_back.Goals as goal

pub loop-init : goal.loop-init
loop-init g c = not_tried c.args.pass.now c.args.batch c.requires.holds

pub returns-in-Ok : goal.returns-in-Ok
returns-in-Ok g c =
    tried_then c.args.pass.now c.loop.pass c.give_back.new.pass c.args.batch true c.loop.invariant
    (was_given_back c.loop.pass c.give_back.new.pass c.args.batch c.loop.invariant.1.0 c.in-Ok.field-0 c.in-Ok.ensures.turn)

pub loop-preserved : goal.loop-preserved
loop-preserved g c =
    tried_then c.args.pass.now c.loop.pass c.give_back.new.pass c.args.batch false c.loop.invariant
    (was_not_given_back c.loop.pass c.give_back.new.pass c.args.batch c.loop.invariant.1.0 c.in-Err.field-0 c.in-Err.ensures.turn)
