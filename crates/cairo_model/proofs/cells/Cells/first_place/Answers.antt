use Rattle.std.proofs.Common.{◌<◌, List, subst, arith}
use Rattle.cairo_model.specs.Machine.FieldMemories.{FieldCell, addresses}
use Rattle.cairo_model.specs.Working.Keys.{AreBelow}
use Rattle.cairo_model.proofs.Narrowing.{below_by_last, all_below_last}
use Rattle.cairo_model.proofs.cells.Cells.first_place.Goals as goal

pub returns-in-Some-checked_sub-clause-below : goal.returns-in-Some-checked_sub-clause-below
returns-in-Some-checked_sub-clause-below c =
    let last = c.in-Some.field-0.now in
    let item = c.in-Some.ensures.item in
    let told = c.in-Some-checked_sub.ensures in
    let list = c.deref.result.now in
    let below = below_by_last list (rw c.deref.ensures.value c.self.invariant) c.args.address.number last item.3.0 item.1 (omega (arith, told.0, c.value.ensures, c.value-2.ensures)) in
    λ j lt. subst (λ (m : List FieldCell). AreBelow (addresses m) c.args.address.number c.saturating_sub.result) c.self.view_is
    (rw (← c.deref.ensures.value) (λ k less. below k (omega (arith, less, c.saturating_sub.ensures, told.1, c.len.ensures, c.deref.ensures.len, c.value.ensures, c.value-2.ensures)))) j lt

pub returns-in-None-clause-below : goal.returns-in-None-clause-below
returns-in-None-clause-below c =
    let last = c.in-Some.field-0.now in
    let item = c.in-Some.ensures.item in
    let list = c.deref.result.now in
    let less : last.0.number < c.args.address.number = grind (arith, c.in-None.ensures, c.value.ensures, c.value-2.ensures) in
    let below = all_below_last list (rw c.deref.ensures.value c.self.invariant) c.args.address.number last item.3.0 item.1 less in
    λ j lt. subst (λ (m : List FieldCell). AreBelow (addresses m) c.args.address.number c.len-in-None.result) c.self.view_is
    (rw (← c.deref.ensures.value) (λ k less. below k (omega (arith, less, c.len-in-None.ensures, c.deref.ensures.len)))) j lt
