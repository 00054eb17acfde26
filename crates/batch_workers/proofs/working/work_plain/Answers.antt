use Rattle.batch_workers.proofs.Endings.{busy_then}
use Rattle.batch_workers.proofs.RoundEnds.{drained, ended}
use Rattle.batch_workers.proofs.working.work_plain.Goals as goal

pub loop-end-preserved : goal.loop-end-preserved
loop-end-preserved g c = (
  busy_then c.args.pass c.args.desk.now c.loop-end.desk c.round.new.desk c.loop-end.invariant.0 c.in-Went.ensures.done.0,
  (c.in-Went.ensures.done.1.0, λ good. c.loop-end.invariant.1.1 c.in-Went.ensures.good.0),
)

pub returns-in-Idle-clause-done : goal.returns-in-Idle-clause-done
returns-in-Idle-clause-done g c =
    drained c.args.pass (g.M.Maker.honest c.args.maker.now) (g.M.Maker.gives c.args.maker.now) c.args.desk.now c.loop-end.desk c.round.new.desk c.loop-end.invariant.0 c.in-Idle.ensures.done

pub returns-in-Ended-clause-done : goal.returns-in-Ended-clause-done
returns-in-Ended-clause-done g c =
    ended c.args.pass (g.M.Maker.honest c.args.maker.now) (g.M.Maker.gives c.args.maker.now) c.args.desk.now c.loop-end.desk c.round.new.desk c.in-Ended.end c.loop-end.invariant.0 c.in-Ended.ensures.done
