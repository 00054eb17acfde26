use Rattle.std.proofs.Common.{◌≡◌, ◌++◌, length, map, take}
use Rattle.std.specs.List.{flat_map}
use Rattle.std.specs.Int.{w32, to_be_bytes}
use Rattle.cairo_model.specs.Pie.Files.{cell_bytes}
use Rattle.cairo_model.specs.Views.Pie.{memory_cell}
use Rattle.pie_format.proofs.writing.put_cells.Given as goal

abbrev pub invariant-loop-cell : goal.invariant-loop-cell
invariant-loop-cell l = l.bytes.items ≡ l.fn.bytes.items ++ (to_be_bytes w32 (length l.cells) ++ flat_map cell_bytes (map memory_cell (take l.cell-index l.cells)))
