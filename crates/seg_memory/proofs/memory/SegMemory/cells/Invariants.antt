use Rattle.std.proofs.Common.{◌≡◌, map}
use Rattle.cairo_model.specs.Views.Pie.{memory_cell}
use Rattle.seg_memory.specs.Memory.{cell_of}
use Rattle.seg_memory.specs.Working.Pages.{cells_to}
use Rattle.seg_memory.proofs.memory.SegMemory.cells.Given as goal

abbrev pub invariant-loop-segment : goal.invariant-loop-segment
invariant-loop-segment l = map memory_cell l.cells.items ≡ cells_to (cell_of l.self) l.self.sizes l.segment
