use Rattle.std.proofs.Common.{◌≡◌, ◌+◌, ◌*◌, Some, length, take}
use Rattle.seg_memory.specs.Memory.{memory_in}
use Rattle.seg_runner.specs.Hashes.{hashed_number, numbers_from_start}
use Rattle.seg_runner.proofs.hashes.inputs_of.Given as goal

abbrev pub invariant-loop-k : goal.invariant-loop-k
invariant-loop-k l = record {
  twelve : length l.numbers ≡ 12;
  so_far : numbers_from_start (λ k. hashed_number (memory_in l.memory) (20 * l.index + k)) l.k ≡ Some (take l.k l.numbers);
}
