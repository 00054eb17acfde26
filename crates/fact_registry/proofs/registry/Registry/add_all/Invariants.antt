use Rattle.std.proofs.Common.{◌≡◌, ◌≤◌, take, length}
use Rattle.std.specs.Vec.Iter.{into_iter_items}
use Rattle.fact_registry.specs.Registries.{AreDistinctFacts, with_facts}
use Rattle.fact_registry.proofs.registry.Registry.add_all.Given as goal

abbrev pub invariant-loop-fact : goal.invariant-loop-fact
invariant-loop-fact l = record {
  goes : with_facts l.self-inside.facts.keys (into_iter_items l.fact-iterator) ≡ with_facts l.initial.self-inside.facts.keys (into_iter_items l.initial.fact-iterator);
  kept : take l.before l.self-inside.facts.keys ≡ l.initial.self-inside.facts.keys;
  within : l.before ≤ length l.self-inside.facts.keys;
  distinct : AreDistinctFacts l.self-inside.facts.keys;
}
