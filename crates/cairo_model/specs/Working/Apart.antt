-- What a layout owes beside a base for each segment.
use Rattle.std.specs.Prelude.{ℕ, List}
use Rattle.cairo_model.specs.Pie.Layouts.{AreInBounds, AreApart}

pub record KeepApart (bases sizes : List ℕ) : Type 0 where
  pub in_bounds : AreInBounds bases
  pub apart : AreApart bases sizes
