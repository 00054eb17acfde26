-- A run as a list of steps from the start (docs/RUNNER.md).
use Rattle.std.specs.Prelude.{ℕ, ◌≡◌, ◌+◌, false, List, [], ◌∷◌, length, map, Ok}
use Rattle.cairo_model.specs.Machine.Steps.{Registers}
use Rattle.cairo_model.specs.Machine.Values.{Datum}
use Rattle.seg_runner.specs.Endings.{is_returned}
use Rattle.seg_runner.specs.Starts.{started}
use Rattle.seg_runner.specs.Steps.{Configuration, run_step}

-- steps that are numbered from n on lead through these configurations, and before each of them the run isn't home
abbrev pub Advances : ℕ → Configuration → List Configuration → Type 0
Advances n now [] = Unit {0}
Advances n now (after ∷ rest) = (is_returned now.registers ≡ false) × ((run_step n now ≡ Ok after) × Advances (n + 1) after rest)

-- the last of a configuration and those after it
abbrev pub last_configuration : Configuration → List Configuration → Configuration
last_configuration now [] = now
last_configuration now (after ∷ rest) = last_configuration after rest

-- so many steps of a program lead here
pub record HasRun (words : List ℕ) (main steps : ℕ) (last : Configuration) : Type 0 where
  pub start : Configuration
  pub rest : List Configuration
  pub starts : started words main ≡ Ok start
  pub advances : Advances 0 start rest
  pub count : length rest ≡ steps
  pub ends : last_configuration start rest ≡ last

-- the registers of each configuration of a run, from the start on
abbrev pub states_of : {words : List ℕ} {main steps : ℕ} {last : Configuration} → HasRun words main steps last → List (Registers Datum)
states_of run = map (λ c. c.registers) (run.start ∷ run.rest)
