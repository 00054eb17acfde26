use Rattle.std.proofs.Common.{ℕ, ◌≡◌, ◌+◌, ◌<◌, Some, length, slice_index}
use Rattle.cairo_model.specs.Machine.FieldMemories.{cell_at}
use Rattle.row_checker.proofs.spans.twenty_numbers.Given as goal

abbrev pub invariant-loop-k : goal.invariant-loop-k
invariant-loop-k l = record {
  twenty : length l.numbers ≡ 20;
  stand : (k : ℕ) → k < l.k → cell_at l.cells (l.address + k) ≡ Some (slice_index l.numbers k);
}
