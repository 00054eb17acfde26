use Rattle.std.proofs.Common.{◌≡◌, ◌++◌, map, take}
use Rattle.cairo_model.specs.Views.Machine.{datum}
use Rattle.cairo_model.specs.Views.Pie.{memory_cell}
use Rattle.work_maker.specs.Down.{cells_with}
use Rattle.work_maker.proofs.rows.put_row.Given as goal

abbrev pub invariant-loop-index : goal.invariant-loop-index
invariant-loop-index l = map memory_cell l.cells.items ≡ map memory_cell l.fn.cells.items ++ cells_with l.segment 0 (map datum (take l.index l.values))
