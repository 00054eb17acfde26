use Rattle.std.proofs.Common.{◌≡◌, Ok, IfOk, Result, Some, sym, subst, ◌∙◌, rules}
use Rattle.cairo_model.specs.Machine.Steps.{Registers}
use Rattle.cairo_model.specs.Machine.Values.{Datum}
use Rattle.cairo_model.specs.Views.Machine.{datum, registers}
use Rattle.cairo_model.specs.declared.state.State.{State}
use Rattle.cairo_word.specs.Instructions.{fields}
use Rattle.seg_memory.specs.Memory.{memory_in}
use Rattle.seg_runner.proofs.Transitions.{concluded_is}
use Rattle.seg_runner.specs.Refusals.{RunCause}
use Rattle.seg_runner.specs.Working.Seen.{growing, place_datum}
use Rattle.seg_runner.proofs.stepping.concluded.Goals as goal

pub returns-clause-ok : goal.returns-clause-ok
returns-clause-ok c =
    let of = c.args.of.now in
    let m = memory_in c.args.memory.now in
    let x = place_datum of.dst in
    let y = place_datum of.op0 in
    let z = place_datum c.args.op1_at in
    let has_dst : m x ≡ Some (datum c.in_ok-dst.dst) = search rules in
    let has_op0 : m y ≡ Some (datum c.in_ok-op0.op0) = search rules in
    let has_op1 : m z ≡ Some (datum c.in_ok-op1.op1) = search rules in
    let whole = concluded_is of.number (growing c.args.memory.now) (fields of.instruction) (registers of.state) x y z (datum c.in_ok-dst.dst) (datum c.in_ok-op0.op0) (datum c.in_ok-op1.op1)
    c.requires has_dst has_op0 has_op1 c.in_ok-consistent.ensures.ok in
    subst (λ (r : Result (Registers Datum) RunCause). IfOk c.transition.result (λ (t : State). r ≡ Ok (registers t))) whole c.transition.ensures.ok

pub returns-clause-refused : goal.returns-clause-refused
returns-clause-refused c = λ e same.
    let of = c.args.of.now in
    let m = memory_in c.args.memory.now in
    let x = place_datum of.dst in
    let y = place_datum of.op0 in
    let z = place_datum c.args.op1_at in
    let has_dst : m x ≡ Some (datum c.in_ok-dst.dst) = search rules in
    let has_op0 : m y ≡ Some (datum c.in_ok-op0.op0) = search rules in
    let has_op1 : m z ≡ Some (datum c.in_ok-op1.op1) = search rules in
    let whole = concluded_is of.number (growing c.args.memory.now) (fields of.instruction) (registers of.state) x y z (datum c.in_ok-dst.dst) (datum c.in_ok-op0.op0) (datum c.in_ok-op1.op1)
    c.requires has_dst has_op0 has_op1 c.in_ok-consistent.ensures.ok in
    sym whole ∙ c.transition.ensures.refused e same
