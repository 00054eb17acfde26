use Rattle.std.proofs.Common.{ℕ, List, ◌∙◌, ap, sym, arith}
use Rattle.std.proofs.lemmas.List.{get_or-map, length-map}
use Rattle.cairo_model.specs.Pie.Acceptance.{CheckedRecord}
use Rattle.batch_plan.specs.Parts.{sizes_of_all, task_parts}
use Rattle.batch_plan.proofs.Sizes.{one_more}
use Rattle.batch_plan.proofs.planning.cells_together.Goals as goal

pub loop-task-preserved : goal.loop-task-preserved
loop-task-preserved c =
    let tasks = c.args.tasks.now in
    let i = c.loop-task.task-index in
    let task = c.task-item.result in
    let sizes : CheckedRecord → List ℕ = λ t. t.pie.sizes in
    let same = ap sizes c.task-item.is ∙ sym (get_or-map sizes tasks i task (sizes task) c.loop-task-test.true) in
    one_more (sizes_of_all tasks) i (sizes task) _ _ _ (omega (arith, length-map tasks sizes, c.loop-task-test.true)) same c.sizes_of.ensures.sizes
    c.loop-task.invariant (c.task_cells-more.ensures.parts ∙ ap task_parts c.sizes_of.ensures.value) c.task_cells-more.ensures.few c.further-parts.ensures
