use Rattle.std.proofs.Common.{◌≡◌, take}
use Rattle.seg_memory.specs.Memory.{memory_in}
use Rattle.seg_runner.specs.Working.Running.{frame_values, with_row}
use Rattle.seg_runner.proofs.starting.put_frame.Given as goal

abbrev pub invariant-loop-offset : goal.invariant-loop-offset
invariant-loop-offset l = record {
  sizes : l.memory.sizes ≡ l.initial.memory.sizes;
  cells : memory_in l.memory ≡ with_row (memory_in l.initial.memory) 1 (take l.offset frame_values);
}
