use Rattle.batch_workers.proofs.PassReturns.{back_busy}
use Rattle.batch_workers.proofs.PassRounds.{busy_both}
use Rattle.batch_workers.proofs.shared_rounds.register_held.Goals as goal

pub returns : goal.returns
returns g c =
    let kept = c.if-kept.ensures in
    busy_both c.args.pass.now c.kept.new.pass c.given_back.new.pass kept.0 (back_busy c.kept.new.pass c.given_back.new.pass c.args.batch c.given_back.result c.given_back.ensures)
