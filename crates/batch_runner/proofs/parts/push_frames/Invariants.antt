use Rattle.std.proofs.Common.{◌≡◌, ◌++◌, drop, length, map}
use Rattle.cairo_model.specs.Machine.FieldMemories.{field_cell}
use Rattle.batch_runner.specs.Working.Placing.{all_frame_cells}
use Rattle.batch_runner.proofs.parts.push_frames.Given as goal

abbrev pub invariant-loop-task : goal.invariant-loop-task
invariant-loop-task l =
    (map field_cell l.out.items ++ all_frame_cells (drop l.task-index l.tasks) ≡ map field_cell l.fn.cells.items ++ all_frame_cells l.tasks)
    × (l.left ≡ length (drop l.task-index l.tasks))
