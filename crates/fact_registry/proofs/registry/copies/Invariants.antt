use Rattle.std.proofs.Common.{◌≡◌, ◌++◌, drop}
use Rattle.fact_registry.proofs.registry.copies.Given as goal

abbrev pub invariant-loop-fact : goal.invariant-loop-fact
invariant-loop-fact l = l.copies.items ++ drop l.fact-index l.facts ≡ l.facts
