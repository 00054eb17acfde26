use Rattle.std.proofs.Common.{◌++◌, map, arith}
use Rattle.cairo_model.specs.Views.Machine.{datum}
use Rattle.work_maker.specs.Down.{countdown}
use Rattle.work_maker.proofs.Countdowns.{round_put, rounds_put}
use Rattle.work_maker.proofs.countdown.put_countdown.Goals as goal

pub loop-round-preserved : goal.loop-round-preserved
loop-round-preserved c =
    round_put (map datum c.loop-round.stack.items) (map datum c.put_round.new.stack.items) (map datum c.args.stack.now.items ++ countdown c.args.rounds) c.args.rounds c.loop-round.round
    c.loop-round-test.true c.in_ok-put_round.ensures c.loop-round.invariant

pub returns : goal.returns
returns c =
    let past = c.loop-round-test.false in
    rounds_put (map datum c.loop-round.stack.items) (map datum c.args.stack.now.items ++ countdown c.args.rounds) c.args.rounds c.loop-round.round (omega arith) c.loop-round.invariant
