-- Numbers that may be there.
use Rattle.std.specs.Prelude.{ℕ, ◌≡◌, Option, Some}

-- both are this number
abbrev pub BothAre : Option ℕ → Option ℕ → Type 0
BothAre one other = (n : ℕ) × ((one ≡ Some n) × (other ≡ Some n))
