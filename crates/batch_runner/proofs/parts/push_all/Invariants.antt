use Rattle.std.proofs.Common.{◌≡◌, ◌++◌, drop, map}
use Rattle.cairo_model.specs.Machine.FieldMemories.{field_cell}
use Rattle.batch_runner.specs.Working.Placing.{cells_in, each_in_turn}
use Rattle.batch_runner.proofs.parts.push_all.Given as goal

abbrev pub invariant-loop-task : goal.invariant-loop-task
invariant-loop-task l = map field_cell l.out.items ++ each_in_turn (cells_in l.part) (drop l.task-index l.tasks) ≡ map field_cell l.fn.cells.items ++ each_in_turn (cells_in l.part) l.tasks
