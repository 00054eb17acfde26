use Rattle.std.proofs.Common.{◌≡◌, ◌-◌}
use Rattle.seg_runner.specs.Working.Seen.{configuration}
use Rattle.seg_runner.specs.Working.Running.{HasSevenSizes, runs_on}
use Rattle.seg_runner.proofs.running.run_home.Given as goal

-- the run from here on is the whole run
abbrev pub invariant-loop-number : goal.invariant-loop-number
invariant-loop-number l = record {
  sizes : HasSevenSizes l.memory;
  on : runs_on (l.limit - l.number) l.number (configuration l.memory l.state) ≡ runs_on l.limit 0 (configuration l.initial.memory l.fn.start);
}
