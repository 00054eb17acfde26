-- A number grows by each digit that is read after it.
use Rattle.std.proofs.Common.{◌≡◌, ℕ, zero, suc, true, refl, ◌+◌, ◌-◌, ◌*◌, ◌<◌, ◌≤◌, List, [], ◌∷◌, length, drop, get_or, arith}
use Rattle.std.specs.Str.Parse.{digits_value_after}
use Rattle.std.specs.Char.{digit_value}
use Rattle.casm_text.specs.Words.{value_of}
use Rattle.casm_text.specs.Tokens.{is_digit, is_digits}
use Rattle.casm_text.proofs.Tokenizing.{and_both}
use Rattle.std.specs.List.{list_all}
use Rattle.std.proofs.lemmas.Bool.Decides.{nat_tests}
use Rattle.std.proofs.lemmas.List.{drop_more}
use Rattle.std.proofs.Common.{ap}

pub grows : (n : ℕ) (ds : List ℕ) → n ≤ digits_value_after 10 n ds
grows n [] = omega arith
grows n (d ∷ ds) = omega (arith, grows (n * 10 + digit_value d) ds)

-- so the whole number is at least what the digits up to this one give
pub at_least : (n i : ℕ) (ds : List ℕ) → digits_value_after 10 n (drop i ds) ≡ value_of ds → i < length ds → n * 10 + digit_value (get_or ds i 0) ≤ value_of ds
at_least n i ds told inside =
    let next : digits_value_after 10 n (drop i ds) ≡ digits_value_after 10 (n * 10 + digit_value (get_or ds i 0)) (drop (i + 1) ds) = ap (digits_value_after 10 n) (drop_more ds i 0 inside) in
    omega (arith, grows (n * 10 + digit_value (get_or ds i 0)) (drop (i + 1) ds))

digit_at : (ds : List ℕ) (i : ℕ) → list_all is_digit ds ≡ true → i < length ds → is_digit (get_or ds i 0) ≡ true
digit_at [] i all inside = absurd (omega arith)
digit_at (d ∷ ds) zero all inside = (and_both (is_digit d) (list_all is_digit ds) all).0
digit_at (d ∷ ds) (suc i) all inside = digit_at ds i (and_both (is_digit d) (list_all is_digit ds) all).1 (omega arith)

digits_all : (ds : List ℕ) → is_digits ds ≡ true → list_all is_digit ds ≡ true
digits_all [] h = refl
digits_all (d ∷ ds) h = h

value_of_digit : (d : ℕ) → is_digit d ≡ true → digit_value d ≡ d - 48
value_of_digit d h = grind (arith, nat_tests)

pub at_least_here : (n i : ℕ) (ds : List ℕ) → is_digits ds ≡ true → digits_value_after 10 n (drop i ds) ≡ value_of ds → i < length ds → n * 10 + (get_or ds i 0 - 48) ≤ value_of ds
at_least_here n i ds all told inside =
    let here = value_of_digit (get_or ds i 0) (digit_at ds i (digits_all ds all) inside) in
    omega (arith, at_least n i ds told inside, here)
