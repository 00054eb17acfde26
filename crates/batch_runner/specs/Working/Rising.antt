-- Cells by rising addresses in a stretch.
use Rattle.std.specs.Prelude.{List, [], suc, ℕ, ◌∷◌, ◌≤◌}
use Rattle.cairo_model.specs.Machine.FieldMemories.{FieldCell}

-- the addresses rise strictly, from lo on and below hi
unfoldable pub RisesIn : ℕ → ℕ → List FieldCell → Type 0
RisesIn lo hi [] = lo ≤ hi
RisesIn lo hi (c ∷ cs) = (lo ≤ c.0) × RisesIn (suc c.0) hi cs
