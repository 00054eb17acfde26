use Rattle.std.proofs.Common.{◌≡◌, map, take}
use Rattle.cairo_model.specs.Views.Machine.{registers, field_registers}
use Rattle.cairo_model.specs.Pie.Layouts.{relocated_state}
use Rattle.relocator.specs.Working.Lists.{numbers}
use Rattle.relocator.proofs.lists.relocate_states.Given as goal

abbrev pub invariant-loop-state : goal.invariant-loop-state
invariant-loop-state l = map field_registers l.out.items ≡ map (relocated_state (numbers l.bases)) (map registers (take l.state-index l.states))
