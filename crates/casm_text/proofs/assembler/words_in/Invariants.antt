use Rattle.casm_text.proofs.WritingWords.{Written}
use Rattle.casm_text.proofs.assembler.words_in.Given as goal
use Rattle.casm_text.specs.Working.Assembling.{lines_left}
use Rattle.std.proofs.Common.{length}

abbrev pub invariant-loop-left : goal.invariant-loop-left
invariant-loop-left l = Written l.text l.words.items (lines_left l.left) l.index

abbrev pub decreases-loop-left : goal.decreases-loop-left
decreases-loop-left l = length (lines_left l.left)
