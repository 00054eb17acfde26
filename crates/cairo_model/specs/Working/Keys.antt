-- Rising lists of keys, and where a key is in one.
use Rattle.std.specs.Prelude.{ℕ, ◌≡◌, ◌<◌, ◌≤◌, nat_lt, Bool, true, List, length, slice_index, Option, Some, None}

-- the keys before index i are below the key
abbrev pub AreBelow : List ℕ → ℕ → ℕ → Type 0
AreBelow keys key i = (j : ℕ) → j < i → slice_index keys j < key

-- the keys from index i on are above the key
abbrev pub AreAbove : List ℕ → ℕ → ℕ → Type 0
AreAbove keys key i = (j : ℕ) → i ≤ j → j < length keys → key < slice_index keys j

-- the key is at index i
pub record IsKeyAt (keys : List ℕ) (key i : ℕ) : Type 0 where
  pub in_range : i < length keys
  pub has_key : slice_index keys i ≡ key

-- the key is not there, and would go to index i
pub record IsGapFor (keys : List ℕ) (key i : ℕ) : Type 0 where
  pub in_range : i ≤ length keys
  pub smaller_before : AreBelow keys key i
  pub greater_after : AreAbove keys key i

-- the key is above the one before, if there was one
abbrev pub is_after : Option ℕ → ℕ → Bool
is_after None key = true
is_after (Some before) key = nat_lt before key
