-- A number grows by each digit that is read after it.
use Rattle.std.proofs.Common.{◌≡◌, ℕ, zero, suc, true, ◌+◌, ◌-◌, ◌*◌, ◌<◌, ◌≤◌, List, [], ◌∷◌, length, drop, get_or, ap, arith}
use Rattle.std.specs.Char.{digit_value}
use Rattle.std.specs.Str.Parse.{digits_value, digits_value_after}
use Rattle.std.proofs.lemmas.Bool.Decides.{nat_tests}
use Rattle.std.proofs.lemmas.List.{drop_more}
use Rattle.cairo_model.proofs.Chains.{both_right}
use Rattle.desk_script.specs.Working.Numbers.{all_digits}

grows : (n : ℕ) (ds : List ℕ) → n ≤ digits_value_after 10 n ds
grows n [] = omega arith
grows n (d ∷ ds) = omega (arith, grows (n * 10 + digit_value d) ds)

-- so the whole number is at least what the digits up to this one give
at_least : (n i : ℕ) (ds : List ℕ) → digits_value_after 10 n (drop i ds) ≡ digits_value 10 ds → i < length ds → n * 10 + digit_value (get_or ds i 0) ≤ digits_value 10 ds
at_least n i ds told inside =
    let next : digits_value_after 10 n (drop i ds) ≡ digits_value_after 10 (n * 10 + digit_value (get_or ds i 0)) (drop (i + 1) ds) = ap (digits_value_after 10 n) (drop_more ds i 0 inside) in
    omega (arith, grows (n * 10 + digit_value (get_or ds i 0)) (drop (i + 1) ds))

value_of_digit : (d : ℕ) (ds : List ℕ) → all_digits (d ∷ ds) ≡ true → digit_value d ≡ d - 48
value_of_digit d ds all = grind (arith, nat_tests)

digit_at : (ds : List ℕ) (i : ℕ) → all_digits ds ≡ true → i < length ds → digit_value (get_or ds i 0) ≡ get_or ds i 0 - 48
digit_at [] i all inside = absurd (omega arith)
digit_at (d ∷ ds) zero all inside = value_of_digit d ds all
digit_at (d ∷ ds) (suc i) all inside = digit_at ds i (both_right _ (all_digits ds) all) (omega arith)

pub at_least_here : (n i : ℕ) (ds : List ℕ) → all_digits ds ≡ true → digits_value_after 10 n (drop i ds) ≡ digits_value 10 ds → i < length ds → n * 10 + (get_or ds i 0 - 48) ≤ digits_value 10 ds
at_least_here n i ds all told inside = omega (arith, at_least n i ds told inside, digit_at ds i all inside)
