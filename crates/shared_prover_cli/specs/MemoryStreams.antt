-- What is known of a source and of a sink that stand in memory.
use Rattle.std.specs.Prelude.{ℕ, ◌+◌, ◌-◌, ◌^◌, ◌<◌, ◌≤◌, ◌⊎◌, List, Contains, length}

-- a source: the bytes left, the most that one call gives, the numbers of the calls that fail, and how
-- many calls and faults there were, both of which stop at the last value of 64 bits
pub record MemInput : Type 0 where
  pub left : List ℕ
  pub most : ℕ
  pub failing : List ℕ
  pub calls : ℕ
  pub faults : ℕ

-- a sink: the bytes that it holds, the bytes that it has room for in all, and the rest as in a source
pub record MemOutput : Type 0 where
  pub held : List ℕ
  pub room : ℕ
  pub most : ℕ
  pub failing : List ℕ
  pub calls : ℕ
  pub faults : ℕ

-- after so many calls, the number of the next one stands in the list, which has numbers of 64 bits
abbrev pub IsNextListed : List ℕ → ℕ → Type 0
IsNextListed failing calls = (calls < 2 ^ 64 - 1) × Contains failing (calls + 1)

-- a write of this piece fails: its call is listed, or the piece has bytes and finds no room
abbrev pub FailsToTake : MemOutput → List ℕ → Type 0
FailsToTake sink piece =
    IsNextListed sink.failing sink.calls ⊎ (0 < length piece × sink.room ≤ length sink.held)
