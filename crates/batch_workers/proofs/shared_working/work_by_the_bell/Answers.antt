use Rattle.std.proofs.Common.{Bool, subst}
use Rattle.batch_workers.specs.SharedWorks.{EndOpen, EndOver}
use Rattle.batch_workers.specs.Working.SharedRounds.{PassRound}
use Rattle.batch_workers.specs.declared.shared_round.SharedRound.TheVariants as round
use Rattle.batch_workers.proofs.PassRounds.{ends_so, goes_on, honest_ends, open_goes, open_start, over_drained, waits_on}
use Rattle.batch_workers.proofs.shared_working.work_by_the_bell.Goals as goal

pub loop-init : goal.loop-init
loop-init g c = (open_start c.args.pass.now, c.requires.idle)

pub loop-preserved-in-Went : goal.loop-preserved-in-Went
loop-preserved-in-Went g c = goes_on (g.M.Maker.honest c.args.maker.now) (g.M.Maker.gives c.args.maker.now) c.args.pass.now c.loop.pass c.shared_round.new.pass EndOpen open_goes c.loop.invariant c.in-Went.ensures

pub loop-preserved : goal.loop-preserved
loop-preserved g c =
    waits_on (g.M.Maker.honest c.args.maker.now) (g.M.Maker.gives c.args.maker.now) c.args.pass.now c.loop.pass c.shared_round.new.pass c.loop.invariant
    (subst (λ (b : Bool). PassRound (g.M.Maker.honest c.args.maker.now) (g.M.Maker.gives c.args.maker.now) c.loop.pass c.shared_round.new.pass (round.Idle b)) c.if-closed.false c.in-Idle.ensures)

pub returns-then-closed-clause-done : goal.returns-then-closed-clause-done
returns-then-closed-clause-done g c =
    over_drained (g.M.Maker.honest c.args.maker.now) (g.M.Maker.gives c.args.maker.now) c.args.pass.now c.loop.pass c.shared_round.new.pass c.loop.invariant
    (subst (λ (b : Bool). PassRound (g.M.Maker.honest c.args.maker.now) (g.M.Maker.gives c.args.maker.now) c.loop.pass c.shared_round.new.pass (round.Idle b)) c.if-closed.true c.in-Idle.ensures)

pub returns-in-Ended-clause-done : goal.returns-in-Ended-clause-done
returns-in-Ended-clause-done g c = ends_so (g.M.Maker.honest c.args.maker.now) (g.M.Maker.gives c.args.maker.now) c.args.pass.now c.loop.pass c.shared_round.new.pass (EndOver c.args.pass.now.number) EndOpen c.in-Ended.end open_goes c.loop.invariant c.in-Ended.ensures

pub returns-in-Ended-clause-honest : goal.returns-in-Ended-clause-honest
returns-in-Ended-clause-honest g c = λ honest. honest_ends (g.M.Maker.honest c.args.maker.now) (g.M.Maker.gives c.args.maker.now) c.args.pass.now c.loop.pass c.shared_round.new.pass c.in-Ended.end honest c.in-Ended.ensures
