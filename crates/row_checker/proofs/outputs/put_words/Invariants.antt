use Rattle.std.proofs.Common.{◌≡◌, ◌++◌, map, take}
use Rattle.row_checker.proofs.outputs.put_words.Given as goal

abbrev pub invariant-loop-word : goal.invariant-loop-word
invariant-loop-word l = map (λ f. f.number) l.numbers.items ≡ map (λ f. f.number) l.fn.numbers.items ++ take l.word-index l.words
