use Rattle.cairo_model.proofs.Narrowing.{cut_rises, cut_found, cut_absent}
use Rattle.cairo_model.proofs.cells.Cells.search.Goals as goal

-- the cells of the slice are a part of all
pub halved-requires : goal.halved-requires
halved-requires c =
    rw c.deref.ensures.value (cut_rises c.self.inside.list.items c.self.invariant c.args.self.now c.self.view_is c.first_place-from.result c.places_to-to.result c.first_place-from.ensures.inside c.places_to-to.ensures.inside)

pub returns-in-Ok-clause-found : goal.returns-in-Ok-clause-found
returns-in-Ok-clause-found c =
    cut_found c.self.inside.list.items c.self.invariant c.args.self.now c.self.view_is c.first_place-from.result c.places_to-to.result c.first_place-from.ensures.inside c.places_to-to.ensures.inside c.args.address.number c.in-Ok.at
    (rw (← c.deref.ensures.value) c.in-Ok.ensures.found)

pub returns-in-Err-clause-absent : goal.returns-in-Err-clause-absent
returns-in-Err-clause-absent c =
    cut_absent c.self.inside.list.items c.self.invariant c.args.self.now c.self.view_is c.first_place-from.result c.places_to-to.result c.first_place-from.ensures.inside c.places_to-to.ensures.inside c.args.address.number c.in-Err.at c.first_place-from.ensures.below c.places_to-to.ensures.above
    (rw (← c.deref.ensures.value) c.in-Err.ensures.absent)
