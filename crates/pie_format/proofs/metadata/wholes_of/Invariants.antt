use Rattle.std.proofs.Common.{◌≡◌, drop}
use Rattle.serde_json.specs.View.{items_view}
use Rattle.cairo_model.specs.Pie.Files.{wholes_in}
use Rattle.pie_format.proofs.ReadingSizes.{wholes_after}
use Rattle.pie_format.proofs.metadata.wholes_of.Given as goal

abbrev pub invariant-loop-item : goal.invariant-loop-item
invariant-loop-item l = wholes_after l.wholes.items (drop l.item-index l.items) ≡ wholes_in (items_view l.items)
