use Rattle.std.proofs.Common.{◌≡◌, ap, sym, subst, ◌∙◌, rules}
use Rattle.std.specs.Prelude.{None, Some}
use Rattle.desk_core.specs.Desks.{first_sealed}
use Rattle.desk_core.specs.Turns.{handed_out}
use Rattle.batch_workers.specs.Works.{IsIdle}
use Rattle.batch_workers.proofs.Returning.{wanted}
use Rattle.batch_workers.proofs.RoundEnds.{by_batch, by_seal}
use Rattle.batch_workers.proofs.TakeRounds.{took_batch, took_none}
use Rattle.batch_workers.proofs.working.round.Goals as goal

pub run_batch-requires-clause-holds : goal.run_batch-requires-clause-holds
run_batch-requires-clause-holds g c = λ κs lives.
    let out : handed_out c.args.desk.now c.in-Ok-default-Some.field-0-0 ≡ Some c.in-Ok-default-Some.parcel = search rules in
    (took_batch c.args.pass c.args.desk.now c.take.new.self c.in-Ok-default-Some.field-0-0 c.requires.idle c.in-Ok-default-Some.ensures.ok c.in-Ok-default-Some.parcel out).holds

pub returns-in-Ok-default-Some-clause-done : goal.returns-in-Ok-default-Some-clause-done
returns-in-Ok-default-Some-clause-done g c =
    let out : handed_out c.args.desk.now c.in-Ok-default-Some.field-0-0 ≡ Some c.in-Ok-default-Some.parcel = search rules in
    by_batch c.args.pass (g.M.Maker.honest c.args.maker.now) (g.M.Maker.gives c.args.maker.now) c.args.desk.now c.take.new.self c.run_batch.new.desk c.in-Ok-default-Some.parcel c.run_batch.result
    (took_batch c.args.pass c.args.desk.now c.take.new.self c.in-Ok-default-Some.field-0-0 c.requires.idle c.in-Ok-default-Some.ensures.ok c.in-Ok-default-Some.parcel out) c.run_batch.ensures.done

pub seal_next-requires-clause-idle : goal.seal_next-requires-clause-idle
seal_next-requires-clause-idle g c =
    let out : handed_out c.args.desk.now c.in-Ok-default-None.field-0-0 ≡ None = search rules in
    let t = took_none c.args.pass c.args.desk.now c.take.new.self c.in-Ok-default-None.field-0-0 c.requires.idle c.in-Ok-default-None.ensures.ok out in
    subst (IsIdle c.args.pass) (sym t.same) c.requires.idle

pub seal_next-requires-clause-none : goal.seal_next-requires-clause-none
seal_next-requires-clause-none g c =
    let out : handed_out c.args.desk.now c.in-Ok-default-None.field-0-0 ≡ None = search rules in
    let t = took_none c.args.pass c.args.desk.now c.take.new.self c.in-Ok-default-None.field-0-0 c.requires.idle c.in-Ok-default-None.ensures.ok out in
    ap first_sealed t.same ∙ t.none

pub returns-in-Ok-default-None-clause-done : goal.returns-in-Ok-default-None-clause-done
returns-in-Ok-default-None-clause-done g c =
    let out : handed_out c.args.desk.now c.in-Ok-default-None.field-0-0 ≡ None = search rules in
    by_seal c.args.pass (g.M.Maker.honest c.args.maker.now) (g.M.Maker.gives c.args.maker.now) c.args.desk.now c.take.new.self c.seal_next.new.desk c.seal_next.result
    (took_none c.args.pass c.args.desk.now c.take.new.self c.in-Ok-default-None.field-0-0 c.requires.idle c.in-Ok-default-None.ensures.ok out) c.seal_next.ensures.done

pub returns-in-Err-clause-done : goal.returns-in-Err-clause-done
returns-in-Err-clause-done g c = wanted c.args.pass c.args.desk.now c.take.new.self c.in-Err.ensures.err
