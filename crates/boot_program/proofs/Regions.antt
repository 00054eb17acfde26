-- Values that stand in order from an address on, seen from another address of the field.
use Rattle.std.proofs.Common.{◌≡◌, ℕ, suc, ◌+◌, ◌<◌, List, [], ◌∷◌, length, slice_index, Option, Some, ap, ◌∙◌, arith}
use Rattle.goldi_field.specs.Numbers.{prime, sum_of}
use Rattle.boot_program.specs.Instances.{InOrderFrom}

module _ (m : ℕ → Option ℕ) where
  -- a region by plain addresses, seen from an address x that is k below its base
  pub region : (values : List ℕ) (x k base : ℕ) → base + length values < prime → sum_of x k ≡ base
      → ((i : ℕ) → i < length values → m (base + i) ≡ Some (slice_index values i)) → InOrderFrom m x k values
  unfolding InOrderFrom
  region [] x k base fits from there = tt
  region (value ∷ rest) x k base fits from there = (
    ap m (from ∙ omega arith) ∙ there 0 (omega arith),
    region rest x (sum_of k 1) (base + 1) (omega (arith, fits)) (next_place rest base fits from) (λ i lt. ap m (one_on base i) ∙ there (suc i) (omega (arith, lt))),
  ) where
    one_on : (base i : ℕ) → base + 1 + i ≡ base + suc i
    one_on base i = omega arith

    next_place : (rest : List ℕ) (base : ℕ) → base + suc (length rest) < prime → sum_of x k ≡ base → sum_of x (sum_of k 1) ≡ base + 1
    next_place rest base fits from = omega (arith, fits, from)
