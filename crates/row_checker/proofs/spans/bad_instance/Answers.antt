use Rattle.std.proofs.Common.{◌≡◌, ◌+◌, ◌*◌, ap, ◌∙◌, slice_index, below_more, arith}
use Rattle.cairo_model.specs.Machine.FieldMemories.{cell_at}
use Rattle.row_checker.proofs.Few.{few_groups}
use Rattle.row_checker.proofs.spans.bad_instance.Goals as goal

pub loop-index-preserved : goal.loop-index-preserved
loop-index-preserved c = below_more _ _ c.loop-index.invariant (c.has_instance.ensures.0 c.if-not-has_instance.false)

pub returns-then-not-has_instance-clause-few : goal.returns-then-not-has_instance-clause-few
returns-then-not-has_instance-clause-few c =
    few_groups c.args.cells.now c.cells_rise.ensures c.args.start.number c.loop-index.index (λ k lt.
    let here = c.loop-index.invariant k lt in
    let same : c.args.start.number + 20 * k ≡ (c.args.start.number + 20 * k) + 0 = omega arith in
    (slice_index here.numbers 0, ap (cell_at c.args.cells.now) same ∙ here.holds 0 (omega arith)))
