use Rattle.std.proofs.Common.{◌≡◌}
use Rattle.builtin_hash.specs.Chains.{words_after}
use Rattle.builtin_hash.proofs.chains.continued.Given as goal

abbrev pub invariant-loop-k : goal.invariant-loop-k
invariant-loop-k l = l.words ≡ words_after l.fn.start l.list l.k
