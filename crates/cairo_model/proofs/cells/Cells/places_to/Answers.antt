use Rattle.std.proofs.Common.{◌<◌, ◌+◌, List, map, subst, arith}
use Rattle.cairo_model.specs.Machine.FieldMemories.{FieldCell, field_cell, addresses, AddressesRise}
use Rattle.cairo_model.specs.Working.Keys.{AreAbove}
use Rattle.cairo_model.proofs.Narrowing.{above_by_first, keys_count}
use Rattle.cairo_model.proofs.cells.Cells.places_to.Goals as goal

pub returns-in-Some-checked_sub-clause-above : goal.returns-in-Some-checked_sub-clause-above
returns-in-Some-checked_sub-clause-above c =
    let first = c.in-Some.field-0.now in
    let item = c.in-Some.ensures.item in
    let list = c.deref.result.now in
    let told = c.in-Some-checked_sub.ensures in
    let reach = c.in-Some-checked_sub.before + 1 in
    let rise : AddressesRise (map field_cell list) = rw c.deref.ensures.value c.self.invariant in
    let above = above_by_first list rise c.args.address.number first item.3.0 item.1 reach (omega (arith, told, c.value.ensures, c.value-2.ensures)) in
    λ j le lt. subst (λ (m : List FieldCell). AreAbove (addresses m) c.args.address.number c.min.result) c.self.view_is
    (rw (← c.deref.ensures.value) (λ k least inside. above k (omega (arith, least, inside, keys_count list rise, c.min.ensures, c.len.ensures, c.deref.ensures.len)) inside)) j le lt

pub returns-in-None-clause-above : goal.returns-in-None-clause-above
returns-in-None-clause-above c =
    let first = c.in-Some.field-0.now in
    let item = c.in-Some.ensures.item in
    let list = c.deref.result.now in
    let less : c.args.address.number < first.0.number + 0 = grind (arith, c.in-None.ensures, c.value.ensures, c.value-2.ensures) in
    let above = above_by_first list (rw c.deref.ensures.value c.self.invariant) c.args.address.number first item.3.0 item.1 0 less in
    subst (λ (m : List FieldCell). AreAbove (addresses m) c.args.address.number 0) c.self.view_is (rw (← c.deref.ensures.value) above)
