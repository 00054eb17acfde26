use Rattle.std.proofs.Common.{◌≡◌, ◌+◌, ◌++◌, drop}
use Rattle.std.specs.List.{enumerate_from, flat_map}
use Rattle.boot_program.specs.Places.{entry_pc}
use Rattle.shared_prover_cli.specs.Answers.Boot.{word_line, word_lines}
use Rattle.shared_prover_cli.proofs.answers.boot.word_lines.Given as goal

-- what was written, and the lines of the words that are left
abbrev pub invariant-loop-index : goal.invariant-loop-index
invariant-loop-index l = l.text.items ++ flat_map word_line (enumerate_from (entry_pc + l.index) (drop l.index l.words)) ≡ word_lines l.words
