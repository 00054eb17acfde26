use Rattle.std.proofs.Common.{◌≡◌, map, take}
use Rattle.pie_replay.proofs.acceptance.words_of.Given as goal

abbrev pub invariant-loop-word : goal.invariant-loop-word
invariant-loop-word l = l.words.items ≡ map (λ f. f.number) (take l.word-index l.code)
