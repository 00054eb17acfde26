use Rattle.casm_text.proofs.Surveying.{Surveyed}
use Rattle.casm_text.proofs.labels.labels_in.Given as goal
use Rattle.casm_text.specs.Working.Assembling.{lines_left}
use Rattle.std.proofs.Common.{length}

abbrev pub invariant-loop-left : goal.invariant-loop-left
invariant-loop-left l = Surveyed l.text l.labels (lines_left l.left) l.index l.at

abbrev pub decreases-loop-left : goal.decreases-loop-left
decreases-loop-left l = length (lines_left l.left)
