use Rattle.std.proofs.Common.{◌∙◌, ap}
use Rattle.std.specs.Prelude.{Err}
use Rattle.batch_workers.proofs.PassRounds.{by_registering, not_certified}
use Rattle.batch_workers.proofs.shared_rounds.run_taken.Goals as goal

pub returns-in-Ok : goal.returns-in-Ok
returns-in-Ok g c = by_registering (g.M.Maker.honest c.args.maker.now) (g.M.Maker.gives c.args.maker.now) c.args.pass.now c.register_held.new.pass c.register_held.result c.register_held.ensures

pub returns-in-Err : goal.returns-in-Err
returns-in-Err g c =
    not_certified (g.M.Maker.honest c.args.maker.now) (g.M.Maker.gives c.args.maker.now) _ c.args.parcel c.parcel.view_is c.args.pass.now c.give_uncertified.new.pass c.requires.pies c.in-Err.end c.give_uncertified.result c.give_uncertified.ensures
    (λ fault is. c.certified.ensures.faulty fault (c.in-Err.is ∙ ap Err is))
