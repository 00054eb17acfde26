use Rattle.std.proofs.Common.{◌≡◌, ◌++◌, drop}
use Rattle.relocator.specs.Working.Lists.{numbers}
use Rattle.batch_runner.proofs.turns.push_words.Given as goal

abbrev pub invariant-loop-word : goal.invariant-loop-word
invariant-loop-word l = numbers l.out.items ++ drop l.word-index l.fn.words ≡ numbers l.fn.values.items ++ l.fn.words
