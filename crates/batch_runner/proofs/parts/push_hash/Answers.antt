use Rattle.std.proofs.Common.{◌≡◌, List, ◌++◌, map, ap, subst, IfOk, append_assoc, ◌∙◌}
use Rattle.cairo_model.specs.Machine.FieldMemories.{FieldCell, field_cell}
use Rattle.cairo_model.specs.Segments.{hash_segment}
use Rattle.batch_runner.specs.Working.Placing.{segment_cells}
use Rattle.batch_runner.proofs.parts.push_hash.Goals as goal

pub returns : goal.returns
returns c =
    let segment = segment_cells hash_segment c.args.task.now in
    subst (λ (xs : List FieldCell). IfOk c.push_part.result (λ out. map field_cell out.items ≡ xs))
    (ap (λ (xs : List FieldCell). xs ++ segment) c.in_ok-with_instances.ensures ∙ append_assoc (map field_cell c.args.cells.items) _ segment) c.push_part.ensures
