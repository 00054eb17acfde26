use Rattle.std.proofs.Common.{inr}
use Rattle.cairo_model.specs.Machine.FieldMemories.{cell_at}
use Rattle.row_checker.proofs.Showing.{none_missing}
use Rattle.row_checker.proofs.tasks.missing_of.Goals as goal

pub returns-in-Some-clause-fails : goal.returns-in-Some-clause-fails
returns-in-Some-clause-fails c = λ stands.
    none_missing c.args.mark.now.bases c.args.task.now.pie.cells (cell_at c.args.cert.now.cells) stands.has_cells c.in-Some.place.segment c.in-Some.place.offset c.in-Some.ensures.some

pub returns-then-not-has_states-clause-shown : goal.returns-then-not-has_states-clause-shown
returns-then-not-has_states-clause-shown c =
    inr (
      c.whole_task-then-not-has_states.ensures.segment,
      (
        c.whole_task-then-not-has_states.ensures.offset,
        λ bases t q. none_missing c.args.mark.now.bases c.args.task.now.pie.cells (cell_at c.args.cert.now.cells) c.in_default.ensures.none t q,
      ),
    )
