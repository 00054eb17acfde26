use Rattle.casm_text.proofs.code.are_felts.Given as goal
use Rattle.goldi_field.specs.Numbers.{IsFelt}
use Rattle.std.proofs.Common.{◌↔◌, drop}
use Rattle.std.specs.List.{AllByRecursion}

-- all words are field numbers exactly where those that are left are
abbrev pub invariant-loop-word : goal.invariant-loop-word
invariant-loop-word l = AllByRecursion IsFelt (drop l.word-index l.words) ↔ AllByRecursion IsFelt l.words
