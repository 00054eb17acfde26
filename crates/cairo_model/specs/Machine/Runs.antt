-- Runs state by state and part by part.
use Rattle.std.specs.Prelude.{ℕ, ◌≡◌, ◌↔◌, ◌+◌, ◌<◌, ◌++◌, List, length, slice_get, Option, Some}
use Rattle.cairo_model.specs.Machine.Steps.{Arithmetic, Registers, Step, Run, RunFrom, last_of}

-- the state of this number, counted from 0
abbrev pub IsState : {V : Type 0} → List (Registers V) → ℕ → Registers V → Type 0
IsState states n s = slice_get states n ≡ Some s

-- the state of this number leads to the one after it
pub record LeadsOn {V : Type 0} (A : Arithmetic V) (m : V → Option V) (states : List (Registers V)) (n : ℕ) : Type 0 where
  pub state : Registers V
  pub after : Registers V
  pub is_state : IsState states n state
  pub is_after : IsState states (n + 1) after
  pub steps : Step A m state after

-- there is a state, and each but the last leads to the next
pub record EachLeadsOn {V : Type 0} (A : Arithmetic V) (m : V → Option V) (states : List (Registers V)) : Type 0 where
  pub some : 0 < length states
  pub each : (n : ℕ) → n + 1 < length states → LeadsOn A m states n

-- a list of states is a run exactly where each leads to the next
abbrev pub RunsByStates : {V : Type 0} → Arithmetic V → Type 0
RunsByStates {V} A = (m : V → Option V) (states : List (Registers V)) → Run A m states ↔ EachLeadsOn A m states

-- a run in two parts is a run through the first, and one through the second from where the first ends
abbrev pub RunsByParts : {V : Type 0} → Arithmetic V → Type 0
RunsByParts {V} A = (m : V → Option V) (s : Registers V) (ts us : List (Registers V)) → RunFrom A m s (ts ++ us) ↔ (RunFrom A m s ts × RunFrom A m (last_of s ts) us)

-- a run of so many steps, from a state through these states after it to a state
pub record Passes {V : Type 0} (A : Arithmetic V) (m : V → Option V) (n : ℕ) (s : Registers V) (ts : List (Registers V)) (t : Registers V) : Type 0 where
  pub count : length ts ≡ n
  pub runs : RunFrom A m s ts
  pub ends : last_of s ts ≡ t

-- a run from s through ts that goes first through these rows to t, and on from there through the rest
pub record GoesOn {V : Type 0} (A : Arithmetic V) (m : V → Option V) (s t : Registers V) (rows ts rest : List (Registers V)) : Type 0 where
  pub parts : ts ≡ rows ++ rest
  pub runs : RunFrom A m t rest
  pub to_end : last_of t rest ≡ last_of s ts
