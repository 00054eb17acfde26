use Rattle.std.proofs.Common.{sym, subst}
use Rattle.batch_workers.specs.Working.SharedRounds.{PassKept}
use Rattle.batch_workers.proofs.PassReturns.{never_another, never_not_held, was_not_registered, was_registered}
use Rattle.batch_workers.proofs.shared_rounds.kept.Goals.{in-Done, in-OutOfMemory}
use Rattle.batch_workers.proofs.shared_rounds.kept.Goals as goal

pub unreachable-requires : goal.unreachable-requires
unreachable-requires g c = never_not_held c.args.pass.now c.register.new.pass c.args.batch c.args.certified c.requires.holds c.requires.pies c.in-NotTaken.field-0 c.in-NotTaken.field-1 c.in-NotTaken.ensures.turn

pub unreachable-requires-in-Stranger : goal.unreachable-requires-in-Stranger
unreachable-requires-in-Stranger g c = never_another c.args.pass.now c.register.new.pass c.args.batch c.args.certified c.requires.holds c.requires.pies c.in-Stranger.field-0 c.in-Stranger.field-1 c.in-Stranger.ensures.turn

pub returns : goal.returns
returns g c =
    elim c.match-register.branch [
      | in-Done w ↦
          subst (PassKept c.args.batch c.args.pass.now c.register.new.pass) (sym w.result-is)
          (was_registered c.args.pass.now c.register.new.pass c.args.batch c.args.certified c.requires.holds c.requires.pies w.in-Done.ensures.turn)
      | in-OutOfMemory w ↦
          subst (PassKept c.args.batch c.args.pass.now c.register.new.pass) (sym w.result-is)
          (was_not_registered c.args.pass.now c.register.new.pass c.args.batch c.args.certified c.requires.holds c.requires.pies w.in-OutOfMemory.field-0 w.in-OutOfMemory.ensures.turn)
    ]
