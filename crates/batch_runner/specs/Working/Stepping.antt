-- The states that stepping over a memory gives.
use Rattle.std.specs.Prelude.{ℕ, ◌≡◌, ◌+◌, List, ◌∷◌, length, Option}
use Rattle.cairo_model.specs.Machine.Runs.{Passes}
use Rattle.cairo_model.specs.Machine.Steps.{Registers, RunsTo, field_arithmetic}

-- where there is a run of so many steps from this state, they are its states
abbrev pub IsRunOver : (ℕ → Option ℕ) → ℕ → Registers ℕ → List (Registers ℕ) → Type 0
IsRunOver m n s states = (rows : List (Registers ℕ)) (last : Registers ℕ) → Passes field_arithmetic m n s rows last → states ≡ s ∷ rows

-- a run of so many steps, from one state to another
pub record HasWalked (m : ℕ → Option ℕ) (n : ℕ) (s : Registers ℕ) (states : List (Registers ℕ)) (now : Registers ℕ) : Type 0 where
  pub runs : RunsTo field_arithmetic m s states now
  pub count : length states ≡ n + 1
