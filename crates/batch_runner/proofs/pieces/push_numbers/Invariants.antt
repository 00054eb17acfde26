use Rattle.std.proofs.Common.{◌≡◌, ◌+◌, ◌++◌, drop, map}
use Rattle.cairo_model.specs.Machine.FieldMemories.{field_cell}
use Rattle.relocator.specs.Working.Lists.{numbers}
use Rattle.batch_runner.specs.Pieces.{numbered}
use Rattle.batch_runner.proofs.pieces.push_numbers.Given as goal

abbrev pub invariant-loop-value : goal.invariant-loop-value
invariant-loop-value l =
    (map field_cell l.out.items ++ numbered l.address (numbers (drop l.value-index l.values)) ≡ map field_cell l.fn.cells.items ++ numbered l.base (numbers l.values))
    × (l.address ≡ l.base + l.value-index)
