use Rattle.std.proofs.Common.{◌≡◌, map, take}
use Rattle.cairo_model.specs.Views.Pie.{memory_cell}
use Rattle.seg_memory.specs.Memory.{HoldsCells}
use Rattle.seg_memory.proofs.memory.SegMemory.of.Given as goal

abbrev pub invariant-loop-cell : goal.invariant-loop-cell
invariant-loop-cell l = record {
  cells : map memory_cell l.cell-items ≡ l.pie.cells;
  sizes : l.memory.sizes ≡ l.pie.sizes;
  holds : HoldsCells l.memory (take l.cell-index l.pie.cells);
}
