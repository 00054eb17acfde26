use Rattle.std.proofs.Common.{◌≡◌, ◌-◌, ◌*◌, ◌≤◌, length, None}
use Rattle.pie_format.specs.Working.Reading.{cells_at}
use Rattle.pie_format.specs.Working.ReadingViews.{memory_cells}
use Rattle.pie_format.proofs.ReadingLoop.{with_front}
use Rattle.pie_format.proofs.cell_reading.file_cells.Given as goal

abbrev pub invariant-loop-index : goal.invariant-loop-index
invariant-loop-index l = record {
  so_far : with_front (memory_cells l.cells.items) (cells_at l.sizes l.index l.before (l.count - l.index) l.rest) ≡ cells_at l.sizes 0 None l.count l.bytes;
  enough : 16 * (l.count - l.index) ≤ length l.rest;
}
