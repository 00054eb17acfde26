use Rattle.std.proofs.Common.{subst}
use Rattle.batch_workers.specs.Working.SharedRounds.{PassTook}
use Rattle.batch_workers.proofs.PassRounds.{by_batch, by_sealing}
use Rattle.batch_workers.proofs.shared_rounds.shared_round.Goals as goal

pub run_taken-requires-clause-holds : goal.run_taken-requires-clause-holds
run_taken-requires-clause-holds g c = λ κs lives.
    let some = c.in-Ok-Some in
    (subst (PassTook c.args.pass.now c.taken_batch.new.pass) some.field-0-is some.ensures.took).1.0

pub run_taken-requires-clause-pies : goal.run_taken-requires-clause-pies
run_taken-requires-clause-pies g c = λ κs lives.
    let some = c.in-Ok-Some in
    (subst (PassTook c.args.pass.now c.taken_batch.new.pass) some.field-0-is some.ensures.took).1.1

pub seal_waiting-requires-clause-idle : goal.seal_waiting-requires-clause-idle
seal_waiting-requires-clause-idle g c = λ κs lives.
    let none = c.in-Ok-None in
    (subst (PassTook c.args.pass.now c.taken_batch.new.pass) none.field-0-is none.ensures.took).1

pub returns-in-Ok-Some : goal.returns-in-Ok-Some
returns-in-Ok-Some g c =
    let some = c.in-Ok-Some in
    by_batch (g.M.Maker.honest c.args.maker.now) (g.M.Maker.gives c.args.maker.now) c.args.pass.now c.taken_batch.new.pass c.run_taken.new.pass some.parcel c.run_taken.result
    (subst (PassTook c.args.pass.now c.taken_batch.new.pass) some.field-0-is some.ensures.took) c.run_taken.ensures

pub returns-in-Ok-None : goal.returns-in-Ok-None
returns-in-Ok-None g c =
    let none = c.in-Ok-None in
    by_sealing (g.M.Maker.honest c.args.maker.now) (g.M.Maker.gives c.args.maker.now) c.args.pass.now c.taken_batch.new.pass c.seal_waiting.new.pass c.seal_waiting.result
    (subst (PassTook c.args.pass.now c.taken_batch.new.pass) none.field-0-is none.ensures.took) c.seal_waiting.ensures
