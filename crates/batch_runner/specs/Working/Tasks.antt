-- The tasks of a batch with their acceptance.
use Rattle.std.specs.Prelude.{List, map}
use Rattle.cairo_model.specs.Pie.Acceptance.{AcceptedWith, CheckedRecord}

-- a task: a PIE that is accepted alone, with its fact and states
pub record Task : Type 0 where
  pub checked : CheckedRecord
  pub accepted : AcceptedWith checked.pie checked.fact checked.states

-- the tasks as they are checked
abbrev pub checked_of : List Task → List CheckedRecord
checked_of tasks = map (λ t. t.checked) tasks
