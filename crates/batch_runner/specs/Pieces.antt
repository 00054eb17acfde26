-- Cells one after the other, and that a cell stands among them.
use Rattle.std.specs.Prelude.{List, [], suc, ℕ, ◌∷◌, ◌≡◌, ◌⊎◌}
use Rattle.cairo_model.specs.Machine.FieldMemories.{FieldCell}

-- numbers in order from a base on
unfoldable pub numbered : ℕ → List ℕ → List FieldCell
numbered base [] = []
numbered base (v ∷ vs) = (base, v) ∷ numbered (suc base) vs

-- the cell stands in the list
unfoldable pub Stands : ℕ → ℕ → List FieldCell → Type 0
Stands a v [] = ⊥
Stands a v (c ∷ cs) = ((c.0 ≡ a) × (c.1 ≡ v)) ⊎ Stands a v cs
