use Rattle.std.proofs.Common.{◌≡◌, map, take}
use Rattle.cairo_model.specs.Machine.Values.{number}
use Rattle.seg_memory.specs.Memory.{memory_in}
use Rattle.seg_runner.specs.Working.Running.{with_row}
use Rattle.seg_runner.proofs.starting.put_code.Given as goal

abbrev pub invariant-loop-offset : goal.invariant-loop-offset
invariant-loop-offset l = record {
  sizes : l.memory.sizes ≡ l.initial.memory.sizes;
  cells : memory_in l.memory ≡ with_row (memory_in l.initial.memory) 0 (take l.offset (map number l.code.words.items));
}
