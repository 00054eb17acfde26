use Rattle.std.proofs.Common.{◌∙◌}
use Rattle.std.proofs.lemmas.List.{length-map}
use Rattle.goldi_field.specs.declared.Felt.{Felt}
use Rattle.cairo_model.proofs.layout.fit.Goals as goal

pub returns-then-bases-sizes : goal.returns-then-bases-sizes
returns-then-bases-sizes c = (
  λ is. let keep = c.keep_apart.ensures.0 is in
      record { one_each = length-map c.args.bases.now (λ (f : Felt). f.number) ∙ c.if-bases-sizes.true; in_bounds = keep.in_bounds; apart = keep.apart },
  λ fits. c.keep_apart.ensures.1 (record { in_bounds = fits.in_bounds; apart = fits.apart }),
)
