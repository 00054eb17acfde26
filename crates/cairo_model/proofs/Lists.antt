-- Elements of lists.
use Rattle.std.proofs.Common.{ℕ, ◌<◌, List, [], ◌∷◌, length, arith}

-- an element of a list that has one
pub at_some : {X R : Type 0} (xs : List X) (i : ℕ) → i < length xs → (X → R) → R
at_some [] i lt go = absurd (omega arith)
at_some (x ∷ xs) i lt go = go x
