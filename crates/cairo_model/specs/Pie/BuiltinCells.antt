-- Lists of numbers that the builtins accept (docs/BUILTINS.md).
use Rattle.std.specs.Prelude.{ℕ, ◌≡◌, ◌*◌, ◌%◌, ◌<◌, List, length, take, drop}
use Rattle.builtin_hash.specs.Instances.{IsInstance, cells_per_instance}

-- the numbers are whole hash instances, one after the other
pub record AreInstances (numbers : List ℕ) : Type 0 where
  pub whole : length numbers % cells_per_instance ≡ 0
  pub each : (i : ℕ) → cells_per_instance * i < length numbers → IsInstance (take cells_per_instance (drop (cells_per_instance * i) numbers))
