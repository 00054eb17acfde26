use Rattle.std.proofs.Common.{◌≡◌, ◌+◌, ◌++◌, drop, map}
use Rattle.cairo_model.specs.Machine.FieldMemories.{field_cell}
use Rattle.batch_runner.specs.Pieces.{numbered}
use Rattle.batch_runner.proofs.memory.push_code.Given as goal

abbrev pub invariant-loop-word : goal.invariant-loop-word
invariant-loop-word l =
    (map field_cell l.out.items ++ numbered l.address (drop l.word-index l.words) ≡ map field_cell l.fn.cells.items ++ numbered l.base l.words)
    × (l.address ≡ l.base + l.word-index)
