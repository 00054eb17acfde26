-- The fact of an accepted PIE is the one that is computed, and the PIE is within the limits of one.
use Rattle.std.proofs.Common.{◌≡◌, List}
use Rattle.cairo_model.specs.Machine.Steps.{Registers}
use Rattle.cairo_model.specs.Machine.Values.{Datum}
use Rattle.cairo_model.specs.Pie.Acceptance.{AcceptedWith, FactRecord, IsFactOf}
use Rattle.cairo_model.specs.Pie.Facts.{fact_of}
use Rattle.cairo_model.specs.Pie.Records.{PieRecord}
use Rattle.cairo_model.specs.Pie.Shapes.{shape_of}
use Rattle.cairo_model.proofs.FactLemmas.{forms_agree}
use Rattle.batch_plan.specs.Cuts.{IsPieShape}

pub fact_is : (pie : PieRecord) (fact : FactRecord) → IsFactOf pie fact → fact ≡ fact_of pie
fact_is pie fact is = ((forms_agree pie fact).0 is).1.1

pub small_is : (pie : PieRecord) (fact : FactRecord) (states : List (Registers Datum)) → AcceptedWith pie fact states → IsPieShape (shape_of pie)
small_is pie fact states is = record { few_steps = is.rules.few_steps; few_cells = is.rules.are_sizes.in_all }
