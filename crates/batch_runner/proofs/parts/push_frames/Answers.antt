use Rattle.std.proofs.Common.{List, ◌++◌, drop, map, ap, ◌+◌, ◌∙◌, arith}
use Rattle.cairo_model.specs.Machine.FieldMemories.{FieldCell, field_cell}
use Rattle.batch_runner.specs.Working.Placing.{all_frame_cells}
use Rattle.batch_runner.proofs.PartsInTurn.{frames_on}
use Rattle.batch_runner.proofs.parts.push_frames.Goals as goal

pub loop-task-preserved : goal.loop-task-preserved
loop-task-preserved c =
    let tasks = c.args.tasks.now in
    let i = c.loop-task.task-index in
    let on = frames_on (map field_cell c.loop-task.out.items) c.loop-task.left i tasks c.task-item.result c.loop-task-test.true c.task-item.is c.loop-task.invariant.1 in (
      ap (λ (xs : List FieldCell). xs ++ all_frame_cells (drop (i + 1) tasks)) c.in_ok-out.ensures ∙ on.0 ∙ c.loop-task.invariant.0,
      (let n = on.1 in omega (arith, n)),
    )
