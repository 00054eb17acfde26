use Rattle.std.proofs.Common.{ℕ, ◌≡◌, ◌<◌, ◌+◌, map, slice_get, Some}
use Rattle.cairo_model.specs.Machine.Runs.{IsState}
use Rattle.cairo_model.specs.Pie.Layouts.{relocated_state}
use Rattle.cairo_model.specs.Views.Machine.{field_registers, registers}
use Rattle.cairo_model.specs.declared.state.State.{State}
use Rattle.row_checker.proofs.tasks.is_stretch.Given as goal

abbrev pub invariant-loop-index : goal.invariant-loop-index
invariant-loop-index l = (k : ℕ) (x : State) → k < l.index → slice_get l.run k ≡ Some x → IsState (map field_registers l.states) (l.row + k) (relocated_state (map (λ f. f.number) l.bases) (registers x))
