use Rattle.std.proofs.Common.{◌∙◌, Option, ap}
use Rattle.cairo_model.specs.Machine.Values.{Datum, place}
use Rattle.pie_replay.proofs.segments.value_in.Goals as goal

pub returns : goal.returns
returns c = c.get.ensures.value ∙ ap (λ (m : Datum → Option Datum). m (place c.args.place.segment c.args.place.offset)) c.requires
