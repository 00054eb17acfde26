-- How much a run takes.
use Rattle.std.specs.Prelude.{sum}
use Rattle.cairo_model.specs.Pie.Records.{PieRecord}
use Rattle.cairo_model.specs.declared.shape.Shape.{Shape}

-- the steps of the run, and the cells that its segments have room for
abbrev pub shape_of : PieRecord → Shape
shape_of pie = record { steps = pie.steps; size = sum pie.sizes }
