use Rattle.std.proofs.Common.{below_more}
use Rattle.row_checker.proofs.Few.{few_indices}
use Rattle.row_checker.proofs.spans.absent_cell.Goals as goal

pub loop-index-preserved : goal.loop-index-preserved
loop-index-preserved c = below_more _ _ c.loop-index.invariant (c.has_cell.ensures.0 c.if-not-has_cell.false)

pub returns-then-not-has_cell-clause-few : goal.returns-then-not-has_cell-clause-few
returns-then-not-has_cell-clause-few c = few_indices c.args.cells.now c.cells_rise.ensures c.args.start.number c.loop-index.index c.loop-index.invariant
