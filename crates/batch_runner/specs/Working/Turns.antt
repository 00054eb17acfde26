-- What the loop over hash instances reads and writes, as one pass over the groups of four words tells it.
use Rattle.std.specs.Prelude.{ℕ, List, [], ◌∷◌, ◌++◌}
use Rattle.builtin_hash.specs.Instances.{instance_of}
use Rattle.cairo_model.specs.Machine.Addresses.{down, up}

-- the instances' words and numbers, from the words before the first group on, with the last words at the end
unfoldable pub hash_from : List ℕ → List (List ℕ) → List ℕ
hash_from words [] = words
hash_from words (g ∷ gs) = words ++ (words ++ (g ++ hash_from (instance_of words g) gs))

-- the turns' cells: the instance, the address of its code and the words left, then its words and numbers; and the three numbers
-- after the last turn
unfoldable pub turns_from : ℕ → ℕ → ℕ → List ℕ → List (List ℕ) → List ℕ
turns_from instance code left words [] = instance ∷ code ∷ left ∷ []
turns_from instance code left words (g ∷ gs) =
    (instance ∷ code ∷ left ∷ []) ++ (words ++ (g ++ turns_from (up instance 20) (up code 4) (down left 4) (instance_of words g) gs))
