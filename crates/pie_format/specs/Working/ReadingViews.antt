-- What the reader keeps of a file, as plain data.
use Rattle.std.specs.Prelude.{List, map}
use Rattle.cairo_model.specs.Pie.Files.{Metadata}
use Rattle.cairo_model.specs.Views.Pie.{memory_cell}
use Rattle.cairo_model.specs.Pie.Records.{MemoryCell}
use Rattle.cairo_model.specs.declared.pie.PieCell.{PieCell}
use Rattle.pie_format.specs.declared.metadata.FileMetadata.{FileMetadata}

abbrev pub metadata : FileMetadata → Metadata
metadata m = record { version = m.version; main = m.main; steps = m.steps; sizes = m.sizes.items }

abbrev pub memory_cells : List PieCell → List MemoryCell
memory_cells cells = map memory_cell cells
