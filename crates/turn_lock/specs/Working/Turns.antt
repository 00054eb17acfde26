-- What a turn has at its two ends.
use Rattle.std.specs.Prelude.{◌≡◌, ℕ, ◌+◌, ◌%◌, ◌^◌, Some, None, List, [], ◌∷◌, ◌++◌}
use Rattle.turn_lock.specs.Journals.{entries_by, IsPrefix, IsAtMostOne}
use Rattle.turn_lock.specs.Tables.{Hold}
use Rattle.turn_lock.specs.Views.{called}
use Rattle.turn_lock.specs.declared.view.Stage.TheVariants.{Called}
use Rattle.turn_lock.specs.declared.view.View.{View}

module _ {S N : Type 0} (journal : S → List (ℕ × N)) (turns width : S → ℕ) where
  -- the turn of a pass with this view has come, and the value is out of the slot
  pub record Begun (before : View N) (value : S) (after : Hold S N) : Type 0 where
    pub ticket : ℕ
    pub becomes : after ≡ (called before ticket (journal value), (0, None) ∷ [])
    pub turns_is : turns value ≡ ticket
    pub width_is : width value ≡ before.width
    pub has_seen : IsPrefix before.seen (journal value)
    pub has_mine : entries_by before.number (journal value) ≡ before.mine

  -- the value that is put back has had one turn more, and at most one entry of the pass more
  pub record Ending (before : Hold S N) (value : S) : Type 0 where
    pub ticket : ℕ
    pub added : List (ℕ × N)
    pub turn : before.0.stage ≡ Called ticket
    pub has : before.1 ≡ (0, Some value) ∷ []
    pub counts : turns value ≡ (ticket + 1) % 2 ^ 64
    pub keeps_width : width value ≡ before.0.width
    pub grows : journal value ≡ before.0.seen ++ added
    pub one : IsAtMostOne before.0.number added
