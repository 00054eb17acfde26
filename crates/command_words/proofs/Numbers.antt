-- The number of an argument, by what the matches give it.
use Rattle.std.proofs.Common.{◌≡◌, ℕ, List, Option, Some, None, ap, sym, subst, ◌∙◌}
use Rattle.std.specs.Prelude.{IfNone, IfSome}
use Rattle.std.specs.Str.Parse.{digits_value}
use Rattle.clap.specs.Walk.{Row, Text, first_of}
use Rattle.command_words.specs.Numbers.{IsNumberIn}
use Rattle.command_words.specs.Readings.{AskedNumber, GivesNumber}

abbrev pub asked_number : Text → ℕ → ℕ → ℕ → AskedNumber
asked_number id least most n = record { id = id; least = least; most = most; number = n }

-- it is one
pub one_number : (matches : List Row) (a b : AskedNumber) → a.id ≡ b.id → GivesNumber matches a → GivesNumber matches b → a.number ≡ b.number
one_number matches a b same p q =
    let value : Some p.spelled ≡ Some q.spelled = sym p.is_value ∙ ap (λ (id : Text). first_of id matches) same ∙ q.is_value in
    let spelled : p.spelled ≡ q.spelled = cc in
    p.is_number.value ∙ ap (digits_value 10) spelled ∙ sym q.is_number.value

-- where there is no value, there is no number
pub no_value : (matches : List Row) (a : AskedNumber) → first_of a.id matches ≡ None → GivesNumber matches a → ⊥
no_value matches a none p = let bad : Some p.spelled ≡ None = sym p.is_value ∙ none in cc

module _ (matches : List Row) (id spelled : Text) (least most : ℕ) (is : first_of id matches ≡ Some spelled) where
  pub number_found : (found : Option ℕ) → IfSome found (IsNumberIn least most spelled) → IfSome found (λ n. GivesNumber matches (asked_number id least most n))
  number_found (Some n) p = record { spelled = spelled; is_value = is; is_number = p }
  number_found None p = p

  no_number : (n : ℕ) → ¬ (IsNumberIn least most spelled n) → GivesNumber matches (asked_number id least most n) → ⊥
  no_number n none p =
      let value : Some p.spelled ≡ Some spelled = sym p.is_value ∙ is in
      let same : p.spelled ≡ spelled = cc in
      none (subst (λ (word : Text). IsNumberIn least most word n) same p.is_number)

  pub number_absent : (found : Option ℕ) → IfNone found ((n : ℕ) → ¬ (IsNumberIn least most spelled n)) → IfNone found ((n : ℕ) → ¬ (GivesNumber matches (asked_number id least most n)))
  number_absent (Some n) p = p
  number_absent None p = λ n. no_number n (p n)
