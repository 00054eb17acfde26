-- Values as plain data, and their partial arithmetic.
use Rattle.std.specs.Prelude.{ℕ, ◌==◌, ◌&&◌, Bool, false, nat_lt, if◌then◌else◌, Option, Some, None}
use Rattle.goldi_field.specs.Numbers.{sum_of, difference_of, product_of}
use Rattle.cairo_model.specs.Limits.{offset_limit}

-- a number, or a segment and an offset
pub data Datum : Type 0 where
  number : ℕ → Datum
  place : ℕ → ℕ → Datum

-- a place at an offset, where that is small
abbrev pub place_at : ℕ → ℕ → Option Datum
place_at segment offset = if nat_lt offset offset_limit then Some (place segment offset) else None

abbrev pub Sum : Datum → Datum → Option Datum
Sum (number a) (number b) = Some (number (sum_of a b))
Sum (number a) (place s o) = place_at s (sum_of o a)
Sum (place s o) (number b) = place_at s (sum_of o b)
Sum (place s o) (place t q) = None

abbrev pub Difference : Datum → Datum → Option Datum
Difference (number a) (number b) = Some (number (difference_of a b))
Difference (number a) (place s o) = None
Difference (place s o) (number b) = place_at s (sum_of o (difference_of 0 b))
Difference (place s o) (place t q) = if s == t then Some (number (difference_of o q)) else None

abbrev pub Product : Datum → Datum → Option Datum
Product (number a) (number b) = Some (number (product_of a b))
Product (number a) (place s o) = None
Product (place s o) (number b) = None
Product (place s o) (place t q) = None

-- the number 0 alone
abbrev pub is_zero_datum : Datum → Bool
is_zero_datum (number a) = a == 0
is_zero_datum (place s o) = false

-- the same number, or the same place
abbrev pub same_datum : Datum → Datum → Bool
same_datum (number a) (number b) = a == b
same_datum (number a) (place s o) = false
same_datum (place s o) (number b) = false
same_datum (place s o) (place t q) = s == t && o == q

-- the number that a value is, if it is one
abbrev pub number_in : Datum → Option ℕ
number_in (number a) = Some a
number_in (place s o) = None
