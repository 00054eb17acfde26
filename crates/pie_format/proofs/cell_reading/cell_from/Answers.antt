use Rattle.pie_format.proofs.ReadingLoop.{cell_parts}
use Rattle.pie_format.proofs.cell_reading.cell_from.Goals as goal

pub returns : goal.returns
returns c =
    cell_parts c.args.sizes.now c.args.before c.args.bytes.now _ _ _ _ _ _ _ _ _ c.number16-segment.ensures.value c.number16-segment.ensures.rest c.number32-offset.ensures.value c.number32-offset.ensures.rest
    c.number16-tag.ensures.value c.number16-tag.ensures.rest c.number64-payload.ensures.value c.value_from-value.ensures c.cell_in.ensures
