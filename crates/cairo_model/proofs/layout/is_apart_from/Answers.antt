use Rattle.cairo_model.proofs.Stretches.{apart_where_differ}
use Rattle.cairo_model.proofs.layout.is_apart_from.Goals as goal

pub returns-else-segment-other : goal.returns-else-segment-other
returns-else-segment-other c = apart_where_differ _ c.args.segment c.args.other _ _ _ _ _ _ c.base_at-base.ensures c.base_at-other_base.ensures c.if-segment-other.false c.share_none.ensures
