use Rattle.fact_registry.proofs.FactLists.{stays_or_comes, was_or_came}
use Rattle.fact_registry.proofs.laws.registered_facts.Goals as goal

pub returns : goal.returns
returns c registry facts fact = (was_or_came registry facts fact, stays_or_comes registry facts fact)
