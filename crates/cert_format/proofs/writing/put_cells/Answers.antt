use Rattle.std.proofs.Common.{length}
use Rattle.std.specs.Int.{w32, to_be_bytes}
use Rattle.cairo_model.specs.Machine.FieldMemories.{field_cell}
use Rattle.cert_format.specs.Spelling.{field_cell_bytes}
use Rattle.cairo_model.proofs.Appending.{one_more}
use Rattle.cert_format.proofs.writing.put_cells.Goals as goal

pub loop-cell-preserved : goal.loop-cell-preserved
loop-cell-preserved c = one_more field_cell field_cell_bytes c.args.out.now.items (to_be_bytes w32 (length c.args.cells.now)) c.loop-cell.out.items c.put_cell.new.out.items c.args.cells.now c.loop-cell.cell-index c.cell-item.result
    c.loop-cell-test.true c.cell-item.is c.loop-cell.invariant c.in_ok-put_cell.ensures
