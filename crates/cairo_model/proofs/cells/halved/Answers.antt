use Rattle.std.proofs.Common.{rules}
use Rattle.std.proofs.lemmas.List.Sorted.{answers_always}
use Rattle.cairo_model.specs.Machine.FieldMemories.{FieldCell, field_cell}
use Rattle.cairo_model.proofs.Searching.{searched_view}
use Rattle.cairo_model.proofs.cells.halved.Goals as goal

-- the closure gives a cell's address
pub returns : goal.returns
returns c =
    let facts = c.binary_search_by_key.ensures in
    let by_key = facts.position (λ cell. cell.0) (answers_always _ _ _ (λ f a r g called. search rules)) in
    searched_view field_cell (λ (c : FieldCell). c.0) c.args.cells.now c.requires c.args.address.number c.binary_search_by_key.result facts.bound by_key
