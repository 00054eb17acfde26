use Rattle.std.proofs.Common.{◌≡◌, ◌+◌, map, length}
use Rattle.cairo_model.specs.Machine.Steps.{value_arithmetic, RunsTo}
use Rattle.seg_memory.specs.Memory.{memory_in}
use Rattle.cairo_model.specs.Views.Machine.{registers}
use Rattle.pie_replay.proofs.runs.run_from.Given as goal

abbrev pub invariant-loop-number : goal.invariant-loop-number
invariant-loop-number l = record {
  runs : RunsTo value_arithmetic (memory_in l.memory) (registers l.fn.start) (map registers l.states.items) (registers l.last);
  counts : length l.states.items ≡ l.number + 1;
}
