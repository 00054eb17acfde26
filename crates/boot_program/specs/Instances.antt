-- Hash instances in a field memory, and the words that a row of them leads to.
use Rattle.std.specs.Prelude.{ℕ, zero, suc, ◌≡◌, ◌<◌, List, [], ◌∷◌, length, slice_index, Option, Some}
use Rattle.goldi_field.specs.Numbers.{sum_of}
use Rattle.builtin_hash.specs.Instances.{IsInstance}
use Rattle.cairo_model.specs.Machine.Addresses.{up}

-- twenty cells from an address on are one hash instance
pub record InstanceAt (m : ℕ → Option ℕ) (x : ℕ) : Type 0 where
  pub cells : List ℕ
  pub is : IsInstance cells
  pub there : (i : ℕ) → i < 20 → m (up x i) ≡ Some (slice_index cells i)

-- a list by its places
abbrev pub eight : (ℕ → ℕ) → List ℕ
eight w = w 0 ∷ w 1 ∷ w 2 ∷ w 3 ∷ w 4 ∷ w 5 ∷ w 6 ∷ w 7 ∷ []

abbrev pub four : (ℕ → ℕ) → List ℕ
four d = d 0 ∷ d 1 ∷ d 2 ∷ d 3 ∷ []

-- one instance and so many more, one after the other
unfoldable pub InstancesAt : (ℕ → Option ℕ) → ℕ → ℕ → Type 0
InstancesAt m zero x = InstanceAt m x
InstancesAt m (suc more) x = InstanceAt m x × InstancesAt m more (up x 20)

-- the address after them
unfoldable pub instance_end : ℕ → ℕ → ℕ
instance_end zero x = up x 20
instance_end (suc more) x = instance_end more (up x 20)

-- numbers in order from an address on
abbrev pub CodeAt : (ℕ → Option ℕ) → ℕ → List ℕ → Type 0
CodeAt m x numbers = (i : ℕ) → i < length numbers → m (up x i) ≡ Some (slice_index numbers i)

-- values in order from the address that is k above x on, x and k being field numbers
unfoldable pub InOrderFrom : (ℕ → Option ℕ) → ℕ → ℕ → List ℕ → Type 0
InOrderFrom m x k [] = Unit {0}
InOrderFrom m x k (value ∷ rest) = (m (sum_of x k) ≡ Some value) × InOrderFrom m x (sum_of k 1) rest
