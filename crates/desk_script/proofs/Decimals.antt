-- Digits with no leading zero are the decimal of their value.
use Rattle.std.proofs.Common.{◌≡◌, ℕ, ◌^◌, ◌<◌, ◌≤◌, ◌==◌, ◌&&◌, true, not, inl, inr, List, [], ◌∷◌, length, get_or, Some, None, refl, ap, sym, ◌∙◌, arith, rules}
use Rattle.std.specs.Prelude.{decimal, nat_lt}
use Rattle.std.specs.Str.Parse.{digits_value}
use Rattle.std.proofs.lemmas.Bool.Decides.{nat_tests}
use Rattle.std.proofs.lemmas.Bool.{cases_lt}
use Rattle.std.proofs.lemmas.Fmt.{decimal-digits_value, decimal_digit, digits_decimal, digits_value-decimal, first_decimal}
use Rattle.std.proofs.lemmas.Str.Parse.{IsNumeralModel, numerals_by_value}
use Rattle.cairo_model.proofs.Chains.{both, both_left, both_right}
use Rattle.cairo_model.proofs.Outcomes.{some_is, then_gives}
use Rattle.desk_script.specs.Scripts.{IsNumberBelow}
use Rattle.desk_script.specs.Working.Numbers.{all_digits, is_decimal, number_in}

own : IsNumeralModel (λ ds. all_digits ds ≡ true) (digits_value 10)
own = numerals_by_value _ (search rules)

plain : (ds : List ℕ) → all_digits ds ≡ true → 48 < get_or ds 0 0 → is_decimal ds ≡ true
plain [] all big = absurd (omega arith)
plain (c ∷ []) all big = all
plain (c ∷ d ∷ ds) all big = both (not (c == 48)) _ (grind (arith, nat_tests)) all

decimal_is : (n : ℕ) → n < 2 ^ 64 → is_decimal (decimal n) ≡ true
decimal_is n fits = elim (cases_lt 0 n) [
  | inl some ↦ plain (decimal n) (digits_decimal own n fits) (first_decimal n some fits)
  | inr none ↦
      let is : n ≡ 0 = omega arith in
      ap is_decimal (ap decimal is ∙ decimal_digit 0 (omega arith))
]

pub number_of_decimal : (limit n : ℕ) → limit ≤ 2 ^ 64 → n < limit → number_in limit (decimal n) ≡ Some n
number_of_decimal limit n fits below =
    let value : digits_value 10 (decimal n) ≡ n = digits_value-decimal own n (omega arith) in
    let less : nat_lt (digits_value 10 (decimal n)) limit ≡ true = rw value (grind (arith, nat_tests)) in
    rw (both (is_decimal (decimal n)) _ (decimal_is n (omega arith)) less, value)

digits_in : (ds : List ℕ) → is_decimal ds ≡ true → (all_digits ds ≡ true) × (0 < length ds) × (get_or ds 0 0 ≡ 48 → length ds ≡ 1)
digits_in [] is = absurd (cc)
digits_in (c ∷ []) is = (is, omega arith, λ first. refl)
digits_in (c ∷ d ∷ ds) is = (both_right (not (c == 48)) (all_digits (c ∷ d ∷ ds)) is, omega arith, λ first. grind (arith, nat_tests))

pub decimal_of_number : (limit : ℕ) (field : List ℕ) (n : ℕ) → limit ≤ 2 ^ 64 → number_in limit field ≡ Some n → (n < limit) × (field ≡ decimal n)
decimal_of_number limit field n fits read =
    then_gives (is_decimal field && nat_lt (digits_value 10 field) limit) (Some (digits_value 10 field)) n read (λ passes same.
    let value : digits_value 10 field ≡ n = some_is (digits_value 10 field) n same in
    let less : nat_lt (digits_value 10 field) limit ≡ true = both_right (is_decimal field) _ passes in
    let below : digits_value 10 field < limit = grind (arith, nat_tests) in
    let parts = digits_in field (both_left (is_decimal field) _ passes) in
    (omega (arith, below, value), sym (decimal-digits_value own field parts.0 parts.1 parts.2 (omega (arith, below, fits))) ∙ ap decimal value))

pub number_below : (limit : ℕ) (field : List ℕ) (n : ℕ) → limit ≤ 2 ^ 64 → number_in limit field ≡ Some n → IsNumberBelow limit field
number_below limit field n fits read =
    let is = decimal_of_number limit field n fits read in (n, is.0, is.1)

pub no_number : (limit : ℕ) (field : List ℕ) → limit ≤ 2 ^ 64 → number_in limit field ≡ None → ¬ IsNumberBelow limit field
no_number limit field fits read (n, below, is) =
    let other : Some n ≡ None = sym (ap (number_in limit) is ∙ number_of_decimal limit n fits below) ∙ read in
    absurd (cc)
