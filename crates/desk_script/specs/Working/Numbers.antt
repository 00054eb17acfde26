-- Reading decimal numbers.
use Rattle.std.specs.Prelude.{ℕ, ◌==◌, ◌&&◌, not, nat_le, nat_lt, Bool, false, List, [], ◌∷◌, Option, Some, None, if◌then◌else◌}
use Rattle.std.specs.List.{list_all}
use Rattle.std.specs.Str.Parse.{digits_value}

-- whether the bytes are digits
abbrev pub all_digits : List ℕ → Bool
all_digits field = list_all (λ c. nat_le 48 c && nat_le c 57) field

-- whether they are the decimal of a number: some digits, and no 0 before others
abbrev pub is_decimal : List ℕ → Bool
is_decimal [] = false
is_decimal (c ∷ []) = all_digits (c ∷ [])
is_decimal (c ∷ d ∷ ds) = not (c == 48) && all_digits (c ∷ d ∷ ds)

-- the number below the limit whose decimal they are
abbrev pub number_in : ℕ → List ℕ → Option ℕ
number_in limit field = if is_decimal field && nat_lt (digits_value 10 field) limit then Some (digits_value 10 field) else None
