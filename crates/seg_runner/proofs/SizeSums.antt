-- The sum of the sizes of segments, one segment after the other.
use Rattle.std.proofs.Common.{◌≡◌, ℕ, ◌+◌, ◌<◌, List, length, sum, slice_index, take, arith}
use Rattle.std.proofs.lemmas.Grind.{common_steps}

-- one more size in the sum
pub sum_more : (sizes : List ℕ) (k : ℕ) → k < length sizes → sum (take (k + 1) sizes) ≡ sum (take k sizes) + slice_index sizes k
sum_more sizes k lt = grind (arith, common_steps)
