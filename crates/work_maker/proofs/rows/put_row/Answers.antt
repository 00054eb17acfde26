use Rattle.std.proofs.Common.{map, take, length, ◌≡◌, ◌++◌, ◌∷◌, [], get_or, ap, ◌∙◌, rules}
use Rattle.std.proofs.lemmas.List.{map-append}
use Rattle.cairo_model.specs.Views.Machine.{datum}
use Rattle.cairo_model.specs.Views.Pie.{memory_cell}
use Rattle.work_maker.proofs.CellRows.{cell_put, cell_with, no_row}
use Rattle.work_maker.proofs.rows.put_row.Goals as goal

pub loop-index-init : goal.loop-index-init
loop-index-init c = no_row c.args.segment (map memory_cell c.args.cells.now.items)

pub loop-index-preserved : goal.loop-index-preserved
loop-index-preserved c =
    let i = c.loop-index.index in
    let values = c.args.values.now in
    let value = c.index-values-index.result in
    let at : value ≡ get_or values i value = search rules in
    let long : length (take i values) ≡ i = search rules in
    let put : map memory_cell c.push.new.self.items ≡ map memory_cell c.loop-index.cells.items ++ cell_with c.args.segment i (datum value) ∷ [] = ap (map memory_cell) c.in_ok-push.ensures.items ∙ map-append memory_cell c.loop-index.cells.items _ in
    cell_put c.args.segment i (map memory_cell c.args.cells.now.items) (map memory_cell c.loop-index.cells.items) (map memory_cell c.push.new.self.items) values value
    c.loop-index-test.true long at c.loop-index.invariant put
