use Rattle.std.proofs.Common.{◌≡◌, sum, take}
use Rattle.seg_runner.proofs.puts.size_in_all.Given as goal

abbrev pub invariant-loop-segment : goal.invariant-loop-segment
invariant-loop-segment l = l.total ≡ sum (take l.segment l.memory.sizes)
