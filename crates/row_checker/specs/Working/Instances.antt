-- An instance at an address, wherever the span ends.
use Rattle.std.specs.Prelude.{ℕ, ◌≡◌, ◌+◌, ◌<◌, List, slice_index, Option, Some}
use Rattle.builtin_hash.specs.Instances.{IsInstance, cells_per_instance}

-- the twenty cells from an address on are an instance
pub record InstanceStands (m : ℕ → Option ℕ) (address : ℕ) : Type 0 where
  pub numbers : List ℕ
  pub holds : (k : ℕ) → k < cells_per_instance → m (address + k) ≡ Some (slice_index numbers k)
  pub is_instance : IsInstance numbers
