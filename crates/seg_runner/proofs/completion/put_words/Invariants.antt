use Rattle.std.proofs.Common.{◌≡◌, ◌-◌}
use Rattle.seg_runner.specs.Endings.{with_words}
use Rattle.seg_runner.specs.Working.Seen.{growing}
use Rattle.seg_runner.specs.Working.Running.{HasSevenSizes}
use Rattle.seg_runner.proofs.completion.put_words.Given as goal

-- what is left to be put gives what all of it gives
abbrev pub invariant-loop-k : goal.invariant-loop-k
invariant-loop-k l = record {
  sizes : HasSevenSizes l.memory;
  on : with_words l.steps (growing l.memory) l.start l.words l.k (8 - l.k) ≡ with_words l.steps (growing l.initial.memory) l.start l.words 0 8;
}
