use Rattle.std.proofs.Common.{◌≡◌, map}
use Rattle.cairo_model.specs.Views.Pie.{memory_cell}
use Rattle.seg_memory.specs.Memory.{cell_of}
use Rattle.seg_memory.specs.Working.Pages.{with_segment}
use Rattle.seg_memory.proofs.listing.add_segment.Given as goal

abbrev pub invariant-loop-offset : goal.invariant-loop-offset
invariant-loop-offset l = map memory_cell l.cells.items ≡ with_segment (cell_of l.memory) (map memory_cell l.fn.cells.items) l.segment l.offset
