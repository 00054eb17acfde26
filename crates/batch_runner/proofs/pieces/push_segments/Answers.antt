use Rattle.std.proofs.Common.{List, ◌++◌, drop, map, ap, ◌+◌, ◌∙◌, arith}
use Rattle.cairo_model.specs.Machine.FieldMemories.{FieldCell, field_cell}
use Rattle.cairo_model.specs.Views.Pie.{memory_cell}
use Rattle.relocator.specs.Working.Lists.{numbers}
use Rattle.batch_runner.specs.Memory.{placed_on}
use Rattle.batch_runner.proofs.CellsIn.{others_on}
use Rattle.batch_runner.proofs.pieces.push_segments.Goals as goal

pub loop-size-preserved : goal.loop-size-preserved
loop-size-preserved c =
    let bases = numbers c.args.bases.now in
    let cells = map memory_cell c.args.pie_cells.now in
    let s = c.loop-size.segment in
    let i = c.loop-size._size-index in
    let rest = placed_on bases (s + 1) (drop (i + 1) c.args.sizes.now) cells in (
      ap (λ (xs : List FieldCell). xs ++ rest) c.in_ok-out.ensures
          ∙ others_on bases cells s i c.args.sizes.now (map field_cell c.loop-size.out.items) c.loop-size-test.true ∙ c.loop-size.invariant.0,
      omega (arith, c.loop-size.invariant.1),
    )
