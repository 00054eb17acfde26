-- Counts and numbers at the front of bytes.
use Rattle.std.proofs.Common.{◌≡◌, ℕ, ◌^◌, ◌<◌, ◌≤◌, List, ◌++◌, length, take, drop, Some, refl, arith, length-append}
use Rattle.std.specs.Int.{w32, w64, from_be_bytes, to_be_bytes}
use Rattle.std.proofs.lemmas.Bool.{le-ltb}
use Rattle.cairo_model.proofs.Bytes.{wide32, wide64, front_again, rest_again}
use Rattle.cert_format.specs.Reading.{count_at, long_number_at}

-- ---- four bytes

pub count_parts : (bytes rest : List ℕ) (n : ℕ) → 4 ≤ length bytes → from_be_bytes w32 (take 4 bytes) ≡ n → drop 4 bytes ≡ rest → count_at bytes ≡ Some (n, rest)
count_parts bytes rest n long is behind = rw (le-ltb (length bytes) 4 long, is, behind) refl

pub count_again : (n : ℕ) (rest : List ℕ) → n < 2 ^ 32 → count_at (to_be_bytes w32 n ++ rest) ≡ Some (n, rest)
count_again n rest lt =
    count_parts (to_be_bytes w32 n ++ rest) rest n (omega (arith, length-append (to_be_bytes w32 n) rest)) (front_again w32 (2 ^ 32) wide32 n rest lt) (rest_again w32 (2 ^ 32) wide32 n rest)

-- ---- eight bytes

pub number_parts : (bytes rest : List ℕ) (n : ℕ) → 8 ≤ length bytes → from_be_bytes w64 (take 8 bytes) ≡ n → drop 8 bytes ≡ rest → long_number_at bytes ≡ Some (n, rest)
number_parts bytes rest n long is behind = rw (le-ltb (length bytes) 8 long, is, behind) refl

pub number_again : (n : ℕ) (rest : List ℕ) → n < 2 ^ 64 → long_number_at (to_be_bytes w64 n ++ rest) ≡ Some (n, rest)
number_again n rest lt =
    number_parts (to_be_bytes w64 n ++ rest) rest n (omega (arith, length-append (to_be_bytes w64 n) rest)) (front_again w64 (2 ^ 64) wide64 n rest lt) (rest_again w64 (2 ^ 64) wide64 n rest)
