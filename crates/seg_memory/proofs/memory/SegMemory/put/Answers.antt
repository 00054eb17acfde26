use Rattle.std.proofs.Common.{◌≡◌, ◌<◌, length, Option, Some, None, refl, ap, ◌∙◌, arith}
use Rattle.std.proofs.lemmas.List.{length-set}
use Rattle.cairo_model.specs.Views.Machine.{datum}
use Rattle.seg_memory.specs.Memory.{size_of}
use Rattle.seg_memory.proofs.Changes.{none_outside, is_there, put_is, few_same, sizes_same, inside_cells}
use Rattle.seg_memory.proofs.memory.SegMemory.put.Goals as goal

some_none : {A R : Type 0} (o : Option A) (x : A) → o ≡ Some x → o ≡ None → R
some_none o x is none = absurd (cc)

-- outside nothing stands
pub returns-then-place-size-clause-stands : goal.returns-then-place-size-clause-stands
returns-then-place-size-clause-stands c d stands =
    some_none _ d stands (none_outside c.self.inside.segments.items _ c.self.view_is c.args.place.segment c.args.place.offset c.args.place.segment refl (omega (arith, c.if-place-size.true, c.cells_in-size.ensures)))

pub returns-in-Some-clause-stands : goal.returns-in-Some-clause-stands
returns-in-Some-clause-stands c d stands = (c.in-Some.taken, refl)

pub invariant_of-self : goal.invariant_of-self
invariant_of-self c =
    let inside : c.args.place.offset < size_of c.args.self.now c.args.place.segment = omega (arith, c.if-place-size.false, c.cells_in-size.ensures) in
    let there = is_there c.self.inside.segments.items _ c.self.view_is c.args.place.segment c.args.place.offset c.from.result c.from.ensures inside in
    few_same c.self.inside.segments.items _ c.self.view_is c.args.place.segment c.from.result c.from.ensures there c.index_mut.result.now c.put.new.self c.index_mut.ensures.value c.self.invariant
    (ap length c.put.ensures ∙ length-set c.index_mut.result.now c.args.place.offset (Some (datum c.args.value)))

pub returns-clause-put : goal.returns-clause-put
returns-clause-put c =
    let inside : c.args.place.offset < size_of c.args.self.now c.args.place.segment = omega (arith, c.if-place-size.false, c.cells_in-size.ensures) in
    let there = is_there c.self.inside.segments.items _ c.self.view_is c.args.place.segment c.args.place.offset c.from.result c.from.ensures inside in
    put_is c.self.inside.segments.items c.args.self.now c.self.view_is c.args.place.segment c.from.result c.from.ensures there c.index_mut.result.now c.put.new.self c.index_mut.ensures.value c.args.place.offset (datum c.args.value)
    (inside_cells c.self.inside.segments.items c.args.self.now c.self.view_is c.args.place.segment c.from.result c.from.ensures there c.index_mut.result.now c.put.new.self c.index_mut.ensures.value c.args.place.offset inside) c.put.ensures

pub returns-clause-sizes : goal.returns-clause-sizes
returns-clause-sizes c =
    let inside : c.args.place.offset < size_of c.args.self.now c.args.place.segment = omega (arith, c.if-place-size.false, c.cells_in-size.ensures) in
    let there = is_there c.self.inside.segments.items _ c.self.view_is c.args.place.segment c.args.place.offset c.from.result c.from.ensures inside in
    sizes_same c.self.inside.segments.items c.args.self.now c.self.view_is c.args.place.segment c.from.result c.from.ensures there c.index_mut.result.now c.put.new.self c.index_mut.ensures.value
    (ap length c.put.ensures ∙ length-set c.index_mut.result.now c.args.place.offset (Some (datum c.args.value)))
