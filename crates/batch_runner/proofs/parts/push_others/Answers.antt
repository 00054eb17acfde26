use Rattle.std.proofs.Common.{map, ap, ◌∙◌}
use Rattle.cairo_model.specs.Pie.Acceptance.{CheckedRecord}
use Rattle.cairo_model.specs.Pie.Records.{PieRecord}
use Rattle.cairo_model.specs.Views.Pie.{memory_cell}
use Rattle.batch_runner.proofs.CellsIn.{task_cells_in}
use Rattle.batch_runner.proofs.parts.push_others.Goals as goal

pub push_segments-requires-clause-inside : goal.push_segments-requires-clause-inside
push_segments-requires-clause-inside c =
    task_cells_in c.args.task.now.task c.bases.result.now c.as_slice.result.now c.task.ensures.accepted c.bases.ensures.fit
    (ap (map memory_cell) c.as_slice.ensures.value
    ∙ ap (λ (p : PieRecord). p.cells) (c.pie.view_is ∙ c.pie-pie.ensures ∙ ap (λ (t : CheckedRecord). t.pie) c.task.ensures.value))
