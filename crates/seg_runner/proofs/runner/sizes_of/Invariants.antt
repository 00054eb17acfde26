use Rattle.std.proofs.Common.{◌≡◌, take}
use Rattle.seg_runner.proofs.runner.sizes_of.Given as goal

abbrev pub invariant-loop-segment : goal.invariant-loop-segment
invariant-loop-segment l = l.sizes.items ≡ take l.segment l.memory.sizes
