use Rattle.std.proofs.Common.{◌≡◌, ◌+◌, ◌++◌, drop, map}
use Rattle.cairo_model.specs.Machine.FieldMemories.{field_cell}
use Rattle.cairo_model.specs.Views.Pie.{memory_cell}
use Rattle.relocator.specs.Working.Lists.{numbers}
use Rattle.batch_runner.specs.Memory.{placed_on}
use Rattle.batch_runner.proofs.pieces.push_segments.Given as goal

abbrev pub invariant-loop-size : goal.invariant-loop-size
invariant-loop-size l =
    (map field_cell l.out.items ++ placed_on (numbers l.bases) l.segment (drop l._size-index l.sizes) (map memory_cell l.pie_cells)
    ≡ map field_cell l.fn.cells.items ++ placed_on (numbers l.bases) l.first l.sizes (map memory_cell l.pie_cells))
    × (l.segment ≡ l.first + l._size-index)
