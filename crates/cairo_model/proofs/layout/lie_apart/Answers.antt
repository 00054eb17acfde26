use Rattle.std.proofs.lemmas.Bool.{iff_false, true_from_ne_false}
use Rattle.cairo_model.proofs.Stretches.{share_none_above, share_one}
use Rattle.cairo_model.proofs.layout.lie_apart.Goals as goal

pub returns-else-ends_by : goal.returns-else-ends_by
returns-else-ends_by c = (
  λ is. share_none_above _ _ _ _ (c.ends_by-else-ends_by.ensures.0 is),
  λ none. true_from_ne_false _ (λ no.
      share_one c.args.base c.args.size c.args.other c.args.other_size c.requires.here c.requires.there (iff_false c.ends_by.ensures c.if-ends_by.false) (iff_false c.ends_by-else-ends_by.ensures no) none),
)
