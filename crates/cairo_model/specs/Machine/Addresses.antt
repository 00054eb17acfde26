-- Addresses counted from another one. Below it, they are counted as the machine counts an offset: -k is prime - k.
use Rattle.std.specs.Prelude.{ℕ, ◌-◌, Option}
use Rattle.goldi_field.specs.Numbers.{prime, sum_of}

-- the address so many cells above
abbrev pub up : ℕ → ℕ → ℕ
up address distance = sum_of address distance

-- the address so many cells below
abbrev pub down : ℕ → ℕ → ℕ
down address distance = sum_of address (prime - distance)

-- what a memory has so many cells below an address
abbrev pub found_below : (ℕ → Option ℕ) → ℕ → ℕ → Option ℕ
found_below field address distance = field (down address distance)
