use Rattle.std.proofs.Common.{◌<◌, List, get_or, ℕ, sym, subst, ◌∙◌}
use Rattle.cairo_model.specs.Views.Pie.{memory_cell}
use Rattle.seg_memory.proofs.Cells.{free_at, cell_at, holds_next, seen_at}
use Rattle.seg_memory.proofs.memory.SegMemory.of.Goals as goal

pub put_cell-requires-clause-inside : goal.put_cell-requires-clause-inside
put_cell-requires-clause-inside c =
    let cell = memory_cell c.cell-item.result in
    let seen = seen_at memory_cell _ _ c.loop-cell.cell-index c.cell-item.result c.loop-cell.invariant.cells c.loop-cell-test.true c.cell-item.is in
    let inside = cell_at c.args.pie.now.sizes c.args.pie.now.cells c.requires.are_cells c.loop-cell.cell-index cell seen.0 seen.1 in
    subst (λ (sizes : List ℕ). cell.offset < get_or sizes cell.segment 0) (sym c.loop-cell.invariant.sizes) inside.in_size

pub put_cell-requires-clause-free : goal.put_cell-requires-clause-free
put_cell-requires-clause-free c =
    let cell = memory_cell c.cell-item.result in
    let seen = seen_at memory_cell _ _ c.loop-cell.cell-index c.cell-item.result c.loop-cell.invariant.cells c.loop-cell-test.true c.cell-item.is in
    c.loop-cell.invariant.holds cell.segment cell.offset ∙ free_at c.args.pie.now.cells c.requires.rise c.loop-cell.cell-index cell seen.0 seen.1

pub loop-cell-preserved : goal.loop-cell-preserved
loop-cell-preserved c =
    let cell = memory_cell c.cell-item.result in
    let seen = seen_at memory_cell _ _ c.loop-cell.cell-index c.cell-item.result c.loop-cell.invariant.cells c.loop-cell-test.true c.cell-item.is in
    record {
      cells = c.loop-cell.invariant.cells;
      sizes = c.put_cell.ensures.sizes ∙ c.loop-cell.invariant.sizes;
      holds = holds_next c.args.pie.now.cells c.loop-cell.cell-index cell c.loop-cell.memory c.put_cell.new.memory seen.0 seen.1 c.requires.rise c.loop-cell.invariant.holds c.put_cell.ensures;
    }
