use Rattle.std.proofs.Common.{◌≡◌, ◌++◌, drop}
use Rattle.fact_registry.specs.Registries.{outputs_under}
use Rattle.fact_registry.proofs.registry.Registry.outputs_of.Given as goal

abbrev pub invariant-loop-fact : goal.invariant-loop-fact
invariant-loop-fact l = l.found.items ++ outputs_under l.program.words (drop l.fact-index l.fact-items) ≡ outputs_under l.program.words l.fact-items
