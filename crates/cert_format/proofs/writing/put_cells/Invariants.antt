use Rattle.std.proofs.Common.{◌≡◌, ◌++◌, length, map, take}
use Rattle.std.specs.List.{flat_map}
use Rattle.std.specs.Int.{w32, to_be_bytes}
use Rattle.cairo_model.specs.Machine.FieldMemories.{field_cell}
use Rattle.cert_format.specs.Spelling.{field_cell_bytes}
use Rattle.cert_format.proofs.writing.put_cells.Given as goal

abbrev pub invariant-loop-cell : goal.invariant-loop-cell
invariant-loop-cell l = l.out.items ≡ l.fn.out.items ++ (to_be_bytes w32 (length l.cells) ++ flat_map field_cell_bytes (map field_cell (take l.cell-index l.cells)))
