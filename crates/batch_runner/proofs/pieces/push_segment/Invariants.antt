use Rattle.std.proofs.Common.{◌≡◌, ◌++◌, drop, map}
use Rattle.cairo_model.specs.Machine.FieldMemories.{field_cell}
use Rattle.cairo_model.specs.Views.Pie.{memory_cell}
use Rattle.relocator.specs.Working.Lists.{numbers}
use Rattle.batch_runner.specs.Memory.{placed}
use Rattle.batch_runner.proofs.pieces.push_segment.Given as goal

abbrev pub invariant-loop-cell : goal.invariant-loop-cell
invariant-loop-cell l =
    map field_cell l.out.items ++ placed (numbers l.bases) l.segment (map memory_cell (drop l.cell-index l.pie_cells))
    ≡ map field_cell l.fn.cells.items ++ placed (numbers l.bases) l.segment (map memory_cell l.pie_cells)
