use Rattle.casm_text.proofs.CheckingLabels.{Checked}
use Rattle.casm_text.proofs.labels.check_labels.Given as goal
use Rattle.casm_text.specs.Working.Assembling.{lines_left}
use Rattle.std.proofs.Common.{length}

abbrev pub invariant-loop-left : goal.invariant-loop-left
invariant-loop-left l = Checked l.text (lines_left l.left) l.index

abbrev pub decreases-loop-left : goal.decreases-loop-left
decreases-loop-left l = length (lines_left l.left)
