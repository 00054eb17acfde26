use Rattle.std.proofs.Common.{ℕ, ◌≡◌, ◌+◌, ◌<◌, Some, length, slice_index}
use Rattle.cairo_model.specs.Pie.Records.{value_at}
use Rattle.cairo_model.specs.Machine.Values.{number}
use Rattle.pie_replay.proofs.builtins.twenty_numbers.Given as goal

abbrev pub invariant-loop-k : goal.invariant-loop-k
invariant-loop-k l = record {
  twenty : length l.numbers ≡ 20;
  stand : (k : ℕ) → k < l.k → value_at l.pie.cells 4 (l.start + k) ≡ Some (number (slice_index l.numbers k));
}
