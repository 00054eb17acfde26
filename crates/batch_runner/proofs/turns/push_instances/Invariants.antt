use Rattle.std.proofs.Common.{◌≡◌, ◌++◌, drop}
use Rattle.builtin_hash.specs.Chains.{groups_of}
use Rattle.relocator.specs.Working.Lists.{numbers}
use Rattle.batch_runner.specs.Working.Turns.{hash_from}
use Rattle.batch_runner.proofs.turns.push_instances.Given as goal

abbrev pub invariant-loop-k : goal.invariant-loop-k
invariant-loop-k l = numbers l.out.items ++ hash_from l.words (drop l.k (groups_of l.code)) ≡ numbers l.fn.values.items ++ hash_from l.fn.start (groups_of l.code)
