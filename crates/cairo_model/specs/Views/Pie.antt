-- A cell of the code as plain data.
use Rattle.cairo_model.specs.Pie.Records.{MemoryCell}
use Rattle.cairo_model.specs.Views.Machine.{datum}
use Rattle.cairo_model.specs.declared.pie.PieCell.{PieCell}

abbrev pub memory_cell : PieCell → MemoryCell
memory_cell c = record { segment = c.place.segment; offset = c.place.offset; value = datum c.value }
