use Rattle.cairo_model.proofs.TypeFacts.{MarksBelow}
use Rattle.cairo_model.proofs.kept.marks_kept.Given as goal

abbrev pub invariant-loop-mark : goal.invariant-loop-mark
invariant-loop-mark l = MarksBelow l.marks l.mark-index
