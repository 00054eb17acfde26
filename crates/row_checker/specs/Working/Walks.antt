-- Rows of a list of states, and the first one that doesn't lead to the next.
use Rattle.std.specs.Prelude.{ℕ, ◌<◌, ◌≤◌, List, map, Option, Some, None}
use Rattle.cairo_model.specs.Machine.FieldMemories.{FieldCell, cell_at}
use Rattle.cairo_model.specs.Machine.Runs.{LeadsOn}
use Rattle.cairo_model.specs.Machine.Steps.{field_arithmetic}
use Rattle.cairo_model.specs.Views.Machine.{field_registers}
use Rattle.cairo_model.specs.declared.state.FieldState.{FieldState}

-- the state of this number leads to the next one
abbrev pub Leads : List FieldCell → List FieldState → ℕ → Type 0
Leads cells states k = LeadsOn field_arithmetic (cell_at cells) (map field_registers states) k

abbrev pub AllGood : (ℕ → Type 0) → ℕ → ℕ → Type 0
AllGood Good first stop = (k : ℕ) → first ≤ k → k < stop → Good k

-- of the numbers from the first to below the stop, i is the least that isn't good
pub record IsFirstBad (Good : ℕ → Type 0) (first stop i : ℕ) : Type 0 where
  pub above : first ≤ i
  pub below : i < stop
  pub bad : ¬ Good i
  pub before : AllGood Good first i

abbrev pub IsAnswer : (ℕ → Type 0) → ℕ → ℕ → Option ℕ → Type 0
IsAnswer Good first stop (Some i) = IsFirstBad Good first stop i
IsAnswer Good first stop None = AllGood Good first stop
