use Rattle.std.proofs.Common.{below_more, rules}
use Rattle.cairo_model.specs.Views.Pie.{memory_cell}
use Rattle.desk_core.proofs.SameLists.{same_mapped}
use Rattle.desk_core.proofs.same_tasks.same_cells.Goals as goal

pub loop-index-preserved : goal.loop-index-preserved
loop-index-preserved c = below_more _ _ c.loop-index.invariant (c.same_cell_at.ensures.0 c.if-not-same_cell_at.false)

pub returns : goal.returns
returns c = (
  λ all. same_mapped memory_cell c.longer-index-end.result c.args.one.now c.args.other.now c.longer-index-end.ensures.one c.longer-index-end.ensures.other (λ k lt. c.loop-index.invariant k (search rules)),
  λ same. search rules,
)
