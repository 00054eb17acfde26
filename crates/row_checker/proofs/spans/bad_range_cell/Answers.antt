use Rattle.std.proofs.Common.{below_more}
use Rattle.row_checker.proofs.Few.{few_indices}
use Rattle.row_checker.proofs.spans.bad_range_cell.Goals as goal

pub loop-index-preserved : goal.loop-index-preserved
loop-index-preserved c = below_more _ _ c.loop-index.invariant (c.has_range_cell.ensures.0 c.if-not-has_range_cell.false)

pub returns-then-not-has_range_cell-clause-few : goal.returns-then-not-has_range_cell-clause-few
returns-then-not-has_range_cell-clause-few c =
    few_indices c.args.cells.now c.cells_rise.ensures c.args.start.number c.loop-index.index (λ k lt. let here = c.loop-index.invariant k lt in (here.0, here.1.0))
