-- The range builtin: which numbers its cells may hold.
use Rattle.std.specs.Prelude.{ℕ, ◌<◌, ◌≤◌, ◌^◌, List, length, slice_index}

-- a range cell holds a number below this one
abbrev pub range_limit : ℕ
range_limit = 2 ^ 32

abbrev pub IsRangeCell : ℕ → Type 0
IsRangeCell n = n < range_limit

-- i is the least index whose number is no range cell
pub record IsFirstOutOfRange (numbers : List ℕ) (i : ℕ) : Type 0 where
  pub inside : i < length numbers
  pub out_of_range : range_limit ≤ slice_index numbers i
  pub before : (k : ℕ) → k < i → IsRangeCell (slice_index numbers k)
