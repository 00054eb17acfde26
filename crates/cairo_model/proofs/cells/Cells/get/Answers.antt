use Rattle.std.proofs.Common.{◌≡◌, ℕ, List, Option, Some, None, option_map, map, sym, subst, ap, ◌∙◌}
use Rattle.cairo_model.specs.Machine.FieldMemories.{FieldCell, field_cell, addresses, cell_at}
use Rattle.cairo_model.specs.Working.Keys.{IsKeyAt, IsGapFor}
use Rattle.cairo_model.proofs.CellLemmas.{address_tells}
use Rattle.cairo_model.proofs.Searching.{found_view, absent_view}
use Rattle.cairo_model.proofs.cells.Cells.get.Goals as goal

abbrev value_in : Option FieldCell → Option ℕ
value_in found = option_map (λ c. c.1) found

-- the address is at its index, and the cell there is the one that was read
pub returns-in-Ok : goal.returns-in-Ok
returns-in-Ok c =
    let address = c.args.address.number in
    let list = c.self.inside.list.items in
    let is_at = subst (λ (m : List FieldCell). IsKeyAt (addresses m) address c.in-Ok.at) (sym c.self.view_is) c.in-Ok.ensures.found in
    let found = found_view field_cell (λ (c : FieldCell). c.0) list c.self.invariant address _ (address_tells (map field_cell list) address) c.in-Ok.at c.index.result.now is_at in
    subst (λ (m : List FieldCell). Some c.index.result.now.1.number ≡ cell_at m address) c.self.view_is
    (ap (λ (f : FieldCell). Some f.1) (ap field_cell c.index.ensures) ∙ sym (ap value_in found))

-- the address is not there
pub returns-in-Err : goal.returns-in-Err
returns-in-Err c =
    let address = c.args.address.number in
    let list = c.self.inside.list.items in
    let is_gap = subst (λ (m : List FieldCell). IsGapFor (addresses m) address c.in-Err.field-0) (sym c.self.view_is) c.in-Err.ensures.absent in
    let found = absent_view field_cell (λ (c : FieldCell). c.0) list c.self.invariant address _ (address_tells (map field_cell list) address) c.in-Err.field-0 is_gap in
    subst (λ (m : List FieldCell). None ≡ cell_at m address) c.self.view_is (sym (ap value_in found))
