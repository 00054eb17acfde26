use Rattle.std.proofs.Common.{◌≡◌, ◌++◌, ◌∷◌, [], Some, None, rules, arith}
use Rattle.std.proofs.lemmas.List.{map_push}
use Rattle.cairo_model.specs.Views.Pie.{memory_cell}
use Rattle.pie_format.specs.Working.Reading.{cell_at, cells_at}
use Rattle.pie_format.specs.Working.ReadingViews.{memory_cells}
use Rattle.pie_format.proofs.ReadingLoop.{goes_on, stops, is_done}
use Rattle.pie_format.proofs.cell_reading.file_cells.Goals as goal

pub returns-in_default : goal.returns-in_default
returns-in_default c =
    let none : cell_at c.args.sizes.now c.loop-index.before c.loop-index.rest.now ≡ None = search rules in
    stops (memory_cells c.loop-index.cells.items) c.args.sizes.now c.args.count c.loop-index.index c.loop-index.before c.loop-index.rest.now (cells_at c.args.sizes.now 0 None c.args.count c.args.bytes.now) c.loop-index-test.true none c.loop-index.invariant.so_far

pub loop-index-preserved : goal.loop-index-preserved
loop-index-preserved c =
    let cell = c.in-Some.cell in
    let found : cell_at c.args.sizes.now c.loop-index.before c.loop-index.rest.now ≡ Some (memory_cell cell) = search rules in
    let e : memory_cells c.push.new.self.items ≡ memory_cells c.loop-index.cells.items ++ memory_cell cell ∷ [] = rw c.in_ok-push.ensures.items (map_push memory_cell c.loop-index.cells.items cell) in
    let next = goes_on (memory_cells c.loop-index.cells.items) c.args.sizes.now c.args.count c.loop-index.index c.loop-index.before c.loop-index.rest.now (memory_cell cell) (cells_at c.args.sizes.now 0 None c.args.count c.args.bytes.now) c.loop-index-test.true found c.loop-index.invariant.so_far in
    record {
      so_far = rw (e, c.split_at.ensures.back, c.place_number.ensures) next;
      enough = omega (arith, c.split_at.ensures.back_len, c.loop-index.invariant.enough);
    }

pub returns : goal.returns
returns c = is_done (memory_cells c.loop-index.cells.items) c.args.sizes.now c.args.count c.loop-index.index c.loop-index.before c.loop-index.rest.now (cells_at c.args.sizes.now 0 None c.args.count c.args.bytes.now) c.loop-index-test.false c.loop-index.invariant.so_far
