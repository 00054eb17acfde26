-- Decimals are digits, and their value is the number.
use Rattle.casm_text.specs.Tokens.{is_digit}
use Rattle.casm_text.specs.Tokens.{is_digits}
use Rattle.casm_text.specs.Words.{value_of}
use Rattle.goldi_field.specs.Numbers.{prime}
use Rattle.std.proofs.Common.{◌≡◌, ℕ, ◌<◌, true, List, [], ◌∷◌, length, arith, rules}
use Rattle.std.specs.Prelude.{decimal}
use Rattle.std.specs.Str.Parse.{digits_value}
use Rattle.std.specs.List.{list_all}
use Rattle.std.proofs.lemmas.Fmt.{decimal_is_IsNumeral, decimal_nonempty, digits_decimal}
use Rattle.std.proofs.lemmas.Str.Parse.{IsNumeralModel, numerals_by_value}

own : IsNumeralModel (λ ds. list_all is_digit ds ≡ true) (digits_value 10)
own = numerals_by_value _ (search rules)

not_nil : (ds : List ℕ) → 0 < length ds → list_all is_digit ds ≡ true → is_digits ds ≡ true
not_nil [] some all = absurd (omega arith)
not_nil (d ∷ ds) some all = all

pub decimal_digits : (n : ℕ) → n < prime → is_digits (decimal n) ≡ true
decimal_digits n below = not_nil (decimal n) (decimal_nonempty n (omega arith)) (digits_decimal own n (omega arith))

pub decimal_value : (n : ℕ) → n < prime → value_of (decimal n) ≡ n
decimal_value n below = (decimal_is_IsNumeral n (omega arith)).1
