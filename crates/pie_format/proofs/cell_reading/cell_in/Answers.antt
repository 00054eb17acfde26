use Rattle.std.proofs.Common.{sym, ◌∙◌}
use Rattle.pie_format.proofs.ReadingSizes.{inside_small}
use Rattle.pie_format.proofs.cell_reading.cell_in.Goals as goal

pub invariant_of-place : goal.invariant_of-place
invariant_of-place c = record { near = inside_small c.args.sizes.now c.args.segment c.args.offset c.requires (sym c.is_inside.ensures ∙ c.if-not-is_inside.false) }
