use Rattle.cairo_step.proofs.Equated.{equations_row, row_equations}
use Rattle.cairo_step.proofs.Steps.{row_steps, steps_row}
use Rattle.cairo_step.proofs.laws.equations_are_steps.Goals as goal

pub returns : goal.returns
returns c = λ m s t felts fs ft. (
  λ e. row_steps m s t (equations_row m s t felts fs ft e),
  λ step. row_equations m s t felts fs ft (steps_row m s t step),
)
