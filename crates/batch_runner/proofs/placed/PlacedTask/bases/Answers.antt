use Rattle.std.proofs.Common.{ℕ, List, ap, subst, sym}
use Rattle.cairo_model.specs.Pie.Acceptance.{CheckedRecord}
use Rattle.cairo_model.specs.Pie.Layouts.{Fits}
use Rattle.relocator.specs.Working.Lists.{numbers}
use Rattle.batch_runner.specs.Working.Places.{place_of}
use Rattle.batch_runner.specs.Working.Placing.{PlacedRecord}
use Rattle.batch_runner.proofs.Fitting.{fits_at}
use Rattle.batch_runner.proofs.placed.PlacedTask.bases.Goals as goal

pub returns-clause-fit : goal.returns-clause-fit
returns-clause-fit c =
    let task = c.self.inside.task.now in
    let fits = fits_at (record { checked = task; accepted = c.self.invariant.accepted }) (place_of c.self.inside.at) c.self.invariant.room in
    subst (λ (t : CheckedRecord). Fits (numbers c.self.inside.bases.now) t.pie.sizes) (ap (λ (x : PlacedRecord). x.task) c.self.view_is)
    (subst (λ (bases : List ℕ). Fits bases task.pie.sizes) (sym c.self.invariant.are_bases) fits)
