-- The chain: a list of numbers hashed by instances, four numbers at a time.
use Rattle.std.specs.Prelude.{ℕ, ◌+◌, ◌*◌, List, [], ◌∷◌, length, take, fold, slice_index}
use Rattle.builtin_hash.specs.Instances.{instance_of}

-- the list cut into groups of four, the last one filled with zeros
unfoldable pub groups_of : List ℕ → List (List ℕ)
groups_of [] = []
groups_of (a ∷ []) = (a ∷ 0 ∷ 0 ∷ 0 ∷ []) ∷ []
groups_of (a ∷ b ∷ []) = (a ∷ b ∷ 0 ∷ 0 ∷ []) ∷ []
groups_of (a ∷ b ∷ c ∷ []) = (a ∷ b ∷ c ∷ 0 ∷ []) ∷ []
groups_of (a ∷ b ∷ c ∷ d ∷ rest) = (a ∷ b ∷ c ∷ d ∷ []) ∷ groups_of rest

-- group k of the list, with 0 at each place past the list's end
abbrev pub group_at : List ℕ → ℕ → List ℕ
group_at numbers k =
    slice_index numbers (4 * k) ∷ slice_index numbers (4 * k + 1)
    ∷ slice_index numbers (4 * k + 2) ∷ slice_index numbers (4 * k + 3) ∷ []

-- the words after one instance for each group, from these words on
abbrev pub chain_from : List ℕ → List ℕ → List ℕ
chain_from words numbers = fold instance_of words (groups_of numbers)

-- the words that the chain of a list of this length starts with
abbrev pub chain_start : ℕ → List ℕ
chain_start n = 0 ∷ 0 ∷ 0 ∷ 0 ∷ 0 ∷ 0 ∷ 0 ∷ n ∷ []

abbrev pub chain_of : List ℕ → List ℕ
chain_of numbers = chain_from (chain_start (length numbers)) numbers

-- the words after one instance for each of the first k groups, from these words on
abbrev pub words_after : List ℕ → List ℕ → ℕ → List ℕ
words_after words numbers k = fold instance_of words (take k (groups_of numbers))
