use Rattle.std.proofs.Common.{ℕ, ◌<◌, map}
use Rattle.boot_program.specs.Faults.Causes.{PrintsAt}
use Rattle.row_checker.proofs.outputs.other_output.Given as goal

abbrev pub invariant-loop-index : goal.invariant-loop-index
invariant-loop-index l = (k : ℕ) → k < l.index → PrintsAt l.cert (map (λ f. f.number) l.wanted) k
