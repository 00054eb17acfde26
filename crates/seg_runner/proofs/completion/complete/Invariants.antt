use Rattle.std.proofs.Common.{◌≡◌, ◌-◌}
use Rattle.seg_runner.specs.Endings.{with_instances}
use Rattle.seg_runner.specs.Working.Seen.{growing}
use Rattle.seg_runner.specs.Working.Running.{HasSevenSizes}
use Rattle.seg_runner.proofs.completion.complete.Given as goal

-- what is left to be put gives what all of it gives
abbrev pub invariant-loop-index : goal.invariant-loop-index
invariant-loop-index l = record {
  sizes : HasSevenSizes l.memory;
  on : with_instances l.steps (growing l.memory) l.index (l.count - l.index) ≡ with_instances l.steps (growing l.initial.memory) 0 l.count;
}
