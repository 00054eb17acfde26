-- What a batch prints: the number of tasks, and then each task's header and outputs (docs/BOOTLOADER.md).
use Rattle.std.specs.Prelude.{ℕ, ◌+◌, List, ◌∷◌, ◌++◌, length, flat_map}
use Rattle.cairo_model.specs.Pie.Acceptance.{FactRecord}

-- the cells of a header: the length of what it heads, itself included, and the eight words of the program hash
abbrev pub header_length : ℕ
header_length = 9

-- a task's header and outputs
abbrev pub task_output : FactRecord → List ℕ
task_output fact = (header_length + length fact.outputs) ∷ fact.program ++ fact.outputs

abbrev pub batch_output : List FactRecord → List ℕ
batch_output facts = length facts ∷ flat_map task_output facts
