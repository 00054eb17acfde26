use Rattle.std.proofs.Common.{◌∙◌, Option, ap}
use Rattle.cairo_model.specs.Machine.Values.{Datum}
use Rattle.cairo_model.specs.Views.Machine.{datum}
use Rattle.pie_replay.proofs.segments.value_by.Goals as goal

pub returns : goal.returns
returns c = c.at.ensures ∙ ap (λ (m : Datum → Option Datum). m (datum c.args.address)) c.requires
