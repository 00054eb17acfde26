use Rattle.std.proofs.Common.{map, subst, below_more, rules}
use Rattle.cairo_model.specs.Machine.FieldMemories.{cell_at}
use Rattle.cairo_model.specs.Views.Pie.{memory_cell}
use Rattle.row_checker.specs.Working.Tasks.{HasCell}
use Rattle.row_checker.proofs.Standing.{image_at, image_is}
use Rattle.row_checker.proofs.tasks.first_lacking.Goals as goal

pub loop-index-preserved : goal.loop-index-preserved
loop-index-preserved c = below_more _ _ c.loop-index.invariant (λ cell is.
    subst (HasCell (map (λ f. f.number) c.args.bases.now) (cell_at c.args.cells.now))
    (image_is memory_cell c.args.list.now c.loop-index.index c.index-list-index.result cell c.loop-index-test.true c.index-list-index.is is)
    (c.has_cell.ensures.0 c.if-not-has_cell.false))

pub returns-then-not-has_cell-clause-some : goal.returns-then-not-has_cell-clause-some
returns-then-not-has_cell-clause-some c = record {
  inside = c.loop-index-test.true;
  fails = λ all.
      let has = all (memory_cell c.index-list-index.result) (image_at memory_cell c.args.list.now c.loop-index.index c.index-list-index.result c.loop-index-test.true c.index-list-index.is) in
      absurd (let is = c.has_cell.ensures.1 has in search rules);
  before = c.loop-index.invariant;
}
