-- The numbers modulo a prime, as plain numbers.
use Rattle.std.specs.Prelude.{◌≡◌, ℕ, ◌+◌, ◌-◌, ◌*◌, ◌%◌, ◌^◌, ◌<◌}

-- the prime 2^64 - 2^32 + 1, called the Goldilocks prime
abbrev pub prime : ℕ
prime = 18446744069414584321

-- a field number is a number below the prime
abbrev pub IsFelt : ℕ → Type 0
IsFelt n = n < prime

-- the sum modulo the prime
abbrev pub sum_of : ℕ → ℕ → ℕ
sum_of a b = (a + b) % prime

-- the difference modulo the prime: subtraction of numbers stops at 0, so the prime is added first
abbrev pub difference_of : ℕ → ℕ → ℕ
difference_of a b = (a + prime - b) % prime

-- the product modulo the prime
abbrev pub product_of : ℕ → ℕ → ℕ
product_of a b = a * b % prime

-- the power of a with exponent e modulo the prime, 1 at exponent 0
abbrev pub power_of : ℕ → ℕ → ℕ
power_of a e = a ^ e % prime

-- b is the inverse of a: their product is 1
abbrev pub IsInverse : ℕ → ℕ → Type 0
IsInverse a b = IsFelt b × (product_of a b ≡ 1)
