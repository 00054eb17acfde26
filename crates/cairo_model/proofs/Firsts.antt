-- First indices and first causes.
use Rattle.std.proofs.Common.{◌≡◌, ℕ, ◌+◌, inl, inr, arith}
use Rattle.std.proofs.lemmas.Bool.{cases_lt}
use Rattle.cairo_model.specs.Refusals.FirstFailing.{IsFirstCause, IsFirstFailing, NoneBelow}

-- there is one first index at which something fails
pub one_failing : (Inside Good : ℕ → Type 0) (i j : ℕ) → IsFirstFailing Inside Good i → IsFirstFailing Inside Good j → i ≡ j
one_failing Inside Good i j first other =
    elim (cases_lt i j) [
      | inl before ↦ absurd (first.fails (other.before i before))
      | inr past ↦ elim (cases_lt j i) [
        | inl later ↦ absurd (other.fails (first.before j later))
        | inr same ↦ omega (arith, past, same)
      ]
    ]

module _ {C : Type 0} (number : C → ℕ) (Applies : C → Type 0) where
  -- no cause of this number applies either
  pub none_below_next : (n : ℕ) → NoneBelow number Applies n → ((other : C) → number other ≡ n → ¬ Applies other) → NoneBelow number Applies (n + 1)
  none_below_next n none absent other lt =
      elim (cases_lt (number other) n) [
        | inl before ↦ none other before
        | inr past ↦ absent other (omega (arith, lt, past))
      ]

  -- there is one first cause, where two of one number that apply are the same
  pub one_first_cause : ((c d : C) → number c ≡ number d → Applies c → Applies d → c ≡ d)
      → (c d : C) → IsFirstCause number Applies c → IsFirstCause number Applies d → c ≡ d
  one_first_cause told c d first other =
      elim (cases_lt (number c) (number d)) [
        | inl before ↦ absurd (other.none_before c before first.applies)
        | inr past ↦ elim (cases_lt (number d) (number c)) [
          | inl later ↦ absurd (first.none_before d later other.applies)
          | inr same ↦ told c d (omega (arith, past, same)) first.applies other.applies
        ]
      ]
