use Rattle.std.proofs.Common.{map}
use Rattle.cairo_model.specs.Machine.FieldMemories.{cell_at}
use Rattle.cairo_model.specs.Views.Machine.{field_registers}
use Rattle.batch_runner.specs.Working.Stepping.{HasWalked}
use Rattle.batch_runner.proofs.rows.states_over.Given as goal

abbrev pub invariant-loop-row : goal.invariant-loop-row
invariant-loop-row l = HasWalked (cell_at l.cells) l.row (field_registers l.fn.start) (map field_registers l.states.items) (field_registers l.state)
