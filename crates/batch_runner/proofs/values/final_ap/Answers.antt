use Rattle.std.proofs.Common.{List, ℕ, ap, ap₂, ◌∙◌}
use Rattle.cairo_model.specs.Machine.Steps.{Registers}
use Rattle.cairo_model.specs.Machine.Values.{Datum}
use Rattle.cairo_model.specs.Pie.Acceptance.{CheckedRecord}
use Rattle.cairo_model.specs.Pie.Layouts.{relocated}
use Rattle.batch_runner.specs.Layout.{last_ap}
use Rattle.batch_runner.proofs.CellsIn.{has_states, task_states_in}
use Rattle.batch_runner.proofs.values.final_ap.Goals as goal

pub last_relocated-requires-clause-some : goal.last_relocated-requires-clause-some
last_relocated-requires-clause-some c =
    has_states c.args.placed.now.task c.states.result.now c.task.ensures.accepted (c.states.ensures.states ∙ ap (λ (t : CheckedRecord). t.states) c.task.ensures.value)

pub last_relocated-requires-clause-inside : goal.last_relocated-requires-clause-inside
last_relocated-requires-clause-inside c =
    task_states_in c.pie_states_stay.ensures c.args.placed.now.task c.bases.result.now c.states.result.now c.task.ensures.accepted c.bases.ensures.fit
    (c.states.ensures.states ∙ ap (λ (t : CheckedRecord). t.states) c.task.ensures.value)

pub returns : goal.returns
returns c =
    c.last_relocated.ensures
    ∙ ap₂ (λ (bases : List ℕ) (ss : List (Registers Datum)). relocated bases (last_ap ss)) c.bases.ensures.value (c.states.ensures.states ∙ ap (λ (t : CheckedRecord). t.states) c.task.ensures.value)
