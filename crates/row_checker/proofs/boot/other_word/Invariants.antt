use Rattle.std.proofs.Common.{ℕ, ◌<◌}
use Rattle.cairo_model.specs.Machine.FieldMemories.{cell_at}
use Rattle.row_checker.proofs.Booting.{HoldsWord}
use Rattle.row_checker.proofs.boot.other_word.Given as goal

abbrev pub invariant-loop-index : goal.invariant-loop-index
invariant-loop-index l = (k : ℕ) → k < l.index → HoldsWord (cell_at l.cells) k
