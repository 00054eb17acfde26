use Rattle.batch_workers.proofs.Handing.{never_not_taken, never_stranger, went}
use Rattle.batch_workers.proofs.RoundEnds.{done_as, good_as, stopped}
use Rattle.batch_workers.specs.declared.round.Round.TheVariants as round
use Rattle.batch_workers.specs.declared.work_end.WorkEnd.TheVariants as work
use Rattle.batch_workers.proofs.working.registered.Goals.{in-Done, in-OutOfMemory}
use Rattle.batch_workers.proofs.working.registered.Goals as goal
use Rattle.desk_core.specs.Registrations.{pies_in}

pub unreachable-requires : goal.unreachable-requires
unreachable-requires c = never_not_taken c.args.pass c.args.desk.now c.register.new.self c.args.batch c.args.certified c.requires.holds c.in-NotTaken.field-0 c.in-NotTaken.ensures.end.0

pub unreachable-requires-in-Stranger : goal.unreachable-requires-in-Stranger
unreachable-requires-in-Stranger c = never_stranger c.args.pass c.args.desk.now c.register.new.self c.args.batch c.args.certified c.requires.holds c.in-Stranger.field-0 c.in-Stranger.ensures.end.0

pub returns-clause-done : goal.returns-clause-done
returns-clause-done c =
    elim c.match-register.branch [
      | in-Done w ↦
          done_as c.args.pass c.args.desk.now c.register.new.self c.match-register.desk c.match-register.result round.Went w.desk-is w.result-is
          (went c.args.pass c.args.desk.now c.register.new.self c.args.batch c.args.certified c.requires.holds w.in-Done.ensures.end.0)
      | in-OutOfMemory w ↦
          done_as c.args.pass c.args.desk.now w.handed_back.new.desk c.match-register.desk c.match-register.result (round.Ended work.OutOfMemory) w.desk-is w.result-is
          (stopped c.args.pass c.args.batch (pies_in c.args.certified.parcel.tasks) c.args.desk.now c.register.new.self w.handed_back.new.desk w.handed_back.result c.requires.holds w.in-OutOfMemory.ensures.end.0 w.handed_back.ensures.back)
    ]

pub returns-clause-good : goal.returns-clause-good
returns-clause-good c =
    elim c.match-register.branch [
      | in-Done w ↦ (c.register.ensures.good.0, good_as c.register.new.self c.match-register.desk w.desk-is c.register.ensures.good.1)
      | in-OutOfMemory w ↦ (c.register.ensures.good.0, good_as w.handed_back.new.desk c.match-register.desk w.desk-is w.handed_back.ensures.good.1)
    ]
