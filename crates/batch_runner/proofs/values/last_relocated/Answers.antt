use Rattle.std.proofs.Common.{ap, sym, ◌∙◌}
use Rattle.cairo_model.specs.Machine.Values.{Datum}
use Rattle.cairo_model.specs.Pie.Layouts.{relocated}
use Rattle.relocator.specs.Working.Lists.{numbers}
use Rattle.batch_runner.proofs.CellsIn.{last_ap_in}
use Rattle.batch_runner.proofs.values.last_relocated.Goals as goal

pub returns : goal.returns
returns c =
    c.relocate_value.ensures
    ∙ ap (λ (d : Datum). relocated (numbers c.args.bases.now) d) (sym (last_ap_in c.args.states.now c.index-states-states.result c.requires.some c.index-states-states.is))
