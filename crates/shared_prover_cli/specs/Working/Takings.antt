-- What a whole reading hands on.
use Rattle.std.specs.Prelude.{ℕ, ◌≤◌, List, Option, length}
use Rattle.shared_prover_cli.specs.WholeStreams.{ConsumesAll}

-- all that was left, no more than so many bytes, was taken
pub record TakesAll (limit : ℕ) (before after : Option (List ℕ)) (HasTaken : List ℕ → Type 0) : Type 0 where
  pub bytes : List ℕ
  pub are_all : ConsumesAll before after bytes
  pub short : length bytes ≤ limit
  pub taken : HasTaken bytes
