use Rattle.cairo_model.proofs.layout.keep_apart.Goals as goal

pub returns-then-are_in_bounds : goal.returns-then-are_in_bounds
returns-then-are_in_bounds c = (
  λ is. record { in_bounds = c.are_in_bounds.ensures.0 c.if-are_in_bounds.true; apart = c.are_apart.ensures.0 is },
  λ keep. c.are_apart.ensures.1 keep.apart,
)
