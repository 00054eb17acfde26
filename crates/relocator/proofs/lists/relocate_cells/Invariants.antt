use Rattle.std.proofs.Common.{◌≡◌, map, take}
use Rattle.cairo_model.specs.Machine.FieldMemories.{field_cell}
use Rattle.cairo_model.specs.Pie.Layouts.{relocated_cell}
use Rattle.cairo_model.specs.Views.Pie.{memory_cell}
use Rattle.relocator.specs.Working.Lists.{numbers}
use Rattle.relocator.proofs.lists.relocate_cells.Given as goal

abbrev pub invariant-loop-cell : goal.invariant-loop-cell
invariant-loop-cell l = map field_cell l.out.items ≡ map (relocated_cell (numbers l.bases)) (map memory_cell (take l.cell-index l.cells))
