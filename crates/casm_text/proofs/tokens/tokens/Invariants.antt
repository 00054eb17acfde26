use Rattle.std.proofs.Common.{length, ◌-◌, map}
use Rattle.casm_text.proofs.TokenSteps.{KeptFew}
use Rattle.casm_text.proofs.tokens.tokens.Given as goal

abbrev pub invariant-loop-i : goal.invariant-loop-i
invariant-loop-i l = KeptFew l.code (map (λ t. t.now) l.found.items) l.start l.i

abbrev pub decreases-loop-i : goal.decreases-loop-i
decreases-loop-i l = length l.code - l.i
