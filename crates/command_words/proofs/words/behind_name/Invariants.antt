use Rattle.std.proofs.Common.{◌≡◌, ◌∷◌, map, string_bytes, take}
use Rattle.command_words.specs.Readings.{program_name}
use Rattle.command_words.proofs.words.behind_name.Given as goal

abbrev pub invariant-loop-word : goal.invariant-loop-word
invariant-loop-word l = map (λ word. word.now) l.named.items ≡ program_name ∷ map string_bytes (take l.word-index l.words)
