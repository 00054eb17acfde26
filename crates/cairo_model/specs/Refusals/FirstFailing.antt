-- The least index at which something fails, and the first of the causes that apply.
use Rattle.std.specs.Prelude.{ℕ, ◌<◌}

-- of the indices inside, i is the least that isn't good
pub record IsFirstFailing (Inside Good : ℕ → Type 0) (i : ℕ) : Type 0 where
  pub inside : Inside i
  pub fails : ¬ Good i
  pub before : (k : ℕ) → k < i → Good k

-- no cause of a number below this one applies
abbrev pub NoneBelow : {C : Type 0} → (C → ℕ) → (C → Type 0) → ℕ → Type 0
NoneBelow {C} number Applies n = (other : C) → number other < n → ¬ Applies other

-- a cause applies, and none of a lower number does
pub record IsFirstCause {C : Type 0} (number : C → ℕ) (Applies : C → Type 0) (cause : C) : Type 0 where
  pub applies : Applies cause
  pub none_before : NoneBelow number Applies (number cause)
