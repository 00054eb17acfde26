use Rattle.std.proofs.Common.{◌∙◌, ap}
use Rattle.std.specs.Prelude.{Err}
use Rattle.batch_workers.proofs.RoundEnds.{uncertified}
use Rattle.batch_workers.proofs.working.run_batch.Goals as goal

pub returns-in-Err-clause-done : goal.returns-in-Err-clause-done
returns-in-Err-clause-done g c =
    uncertified c.args.pass (g.M.Maker.honest c.args.maker.now) (g.M.Maker.gives c.args.maker.now) _ c.args.parcel c.parcel.view_is c.args.desk.now c.not_certified.new.desk c.requires.holds c.in-Err.end c.not_certified.result
    c.not_certified.ensures.done
    (λ fault is. c.certified.ensures.faulty fault (c.in-Err.is ∙ ap Err is))
