use Rattle.builtin_hash.proofs.InstanceLemmas.{AreWords-instance_of, IsInstance-parts}
use Rattle.builtin_hash.proofs.laws.instance_laws.Goals as goal

pub returns-clause-words : goal.returns-clause-words
returns-clause-words c = AreWords-instance_of

pub returns-clause-parts : goal.returns-clause-parts
returns-clause-parts c = IsInstance-parts
