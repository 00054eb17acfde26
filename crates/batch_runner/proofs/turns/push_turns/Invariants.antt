use Rattle.std.proofs.Common.{◌≡◌, ◌++◌, drop}
use Rattle.builtin_hash.specs.Chains.{groups_of}
use Rattle.relocator.specs.Working.Lists.{numbers}
use Rattle.batch_runner.specs.Working.Turns.{turns_from}
use Rattle.batch_runner.proofs.turns.push_turns.Given as goal

abbrev pub invariant-loop-k : goal.invariant-loop-k
invariant-loop-k l =
    numbers l.out.items ++ turns_from l.turn.instance.number l.turn.code.number l.turn.left.number l.words (drop l.k (groups_of l.code))
    ≡ numbers l.fn.values.items ++ turns_from l.fn.first.instance.number l.fn.first.code.number l.fn.first.left.number l.fn.start (groups_of l.code)
