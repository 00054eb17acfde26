use Rattle.std.proofs.Common.{◌≡◌, ◌++◌, drop}
use Rattle.relocator.specs.Working.Lists.{numbers}
use Rattle.batch_runner.proofs.turns.push_group.Given as goal

abbrev pub invariant-loop-number : goal.invariant-loop-number
invariant-loop-number l = numbers l.out.items ++ drop l.number-index l.fn.next ≡ numbers l.fn.values.items ++ l.fn.next
