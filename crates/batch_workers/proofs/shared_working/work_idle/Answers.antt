use Rattle.batch_workers.specs.Works.{EndBusy, EndIdle}
use Rattle.batch_workers.proofs.Endings.{busy_on}
use Rattle.batch_workers.proofs.PassEvents.{no_more}
use Rattle.batch_workers.proofs.PassRounds.{ends_so, goes_on, honest_ends, idle_drained}
use Rattle.batch_workers.proofs.shared_working.work_idle.Goals as goal

pub loop-init : goal.loop-init
loop-init g c = (no_more c.args.pass.now, c.requires.idle)

pub loop-preserved : goal.loop-preserved
loop-preserved g c = goes_on (g.M.Maker.honest c.args.maker.now) (g.M.Maker.gives c.args.maker.now) c.args.pass.now c.loop.pass c.shared_round.new.pass EndBusy busy_on c.loop.invariant c.in-Went.ensures

pub returns-in-Idle-clause-done : goal.returns-in-Idle-clause-done
returns-in-Idle-clause-done g c = idle_drained (g.M.Maker.honest c.args.maker.now) (g.M.Maker.gives c.args.maker.now) c.args.pass.now c.loop.pass c.shared_round.new.pass c.in-Idle.field-0 c.loop.invariant c.in-Idle.ensures

pub returns-in-Ended-clause-done : goal.returns-in-Ended-clause-done
returns-in-Ended-clause-done g c = ends_so (g.M.Maker.honest c.args.maker.now) (g.M.Maker.gives c.args.maker.now) c.args.pass.now c.loop.pass c.shared_round.new.pass (EndIdle c.args.pass.now.number) EndBusy c.in-Ended.end busy_on c.loop.invariant c.in-Ended.ensures

pub returns-in-Ended-clause-honest : goal.returns-in-Ended-clause-honest
returns-in-Ended-clause-honest g c = λ honest. honest_ends (g.M.Maker.honest c.args.maker.now) (g.M.Maker.gives c.args.maker.now) c.args.pass.now c.loop.pass c.shared_round.new.pass c.in-Ended.end honest c.in-Ended.ensures
