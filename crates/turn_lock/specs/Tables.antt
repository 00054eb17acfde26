-- The lock in a table of atomic words and slots, and what each step tells its caller.
use Rattle.std.specs.Prelude.{◌≡◌, ◌≢◌, ℕ, Option, Some, List, [], ◌∷◌, ◌++◌}
use Rattle.atomic_table.specs.Table.{State, Me, Step, rest}
use Rattle.turn_lock.specs.Journals.{entries_by, IsPrefix, longer}
use Rattle.turn_lock.specs.Views.{waiting, called, raised, settled}
use Rattle.turn_lock.specs.Locks.{Lock, Rule}
use Rattle.turn_lock.specs.declared.view.Stage.TheVariants.{Waiting}
use Rattle.turn_lock.specs.declared.view.View.{View}

-- a seat's view, and the slot where the seat has it
abbrev pub Hold : Type 0 → Type 0 → Type 0
Hold S N = Me (Option S) (View N)

module _ {S N : Type 0} where
  -- a ticket was drawn
  abbrev pub drew : Step (Option S) → Hold S N → ℕ → Hold S N → Type 0
  drew _ m found m' = m' ≡ (waiting m.0 found, m.1)

  -- the longer of what was seen and what a note says is seen: both are beginnings of it, and it begins a journal that has no other entry of the pass than its own
  abbrev pub learned : Step (Option S) → Hold S N → ℕ → Hold S N → Type 0
  learned _ m _ m' = (m' ≡ (settled m.0, m.1)) × ((note : List (ℕ × N)) → m.0.heard ≡ note ∷ [] → IsPrefix m.0.seen (longer m.0.seen note) × (IsPrefix note (longer m.0.seen note) × ((log : List (ℕ × N)) × (IsPrefix (longer m.0.seen note) log × (entries_by m.0.number log ≡ m.0.mine)))))

module _ {S N : Type 0} (journal : S → List (ℕ × N)) (turns width : S → ℕ) where
  -- the table has the two words, the slot and the views of a lock that keeps the rule
  pub record Standing (passes : ℕ) (s : State (Option S) (View N)) : Type 0 where
    pub lock : Lock S N
    pub words : s.words ≡ lock.ticket ∷ lock.serving ∷ []
    pub homes : s.homes ≡ lock.slot ∷ []
    pub views : s.views ≡ lock.views
    pub keeps : Rule journal turns width passes lock

  -- the slot came, with a value whose turn count is the ticket, whose journal begins with what was seen, and has just these entries of the pass
  pub record Took (before : View N) (t : ℕ) (carried : List (ℕ × Option S)) (after : Hold S N) : Type 0 where
    pub value : S
    pub becomes : after ≡ (called before t (journal value), (0, Some value) ∷ carried)
    pub turns_is : turns value ≡ t
    pub width_is : width value ≡ before.width
    pub has_seen : IsPrefix before.seen (journal value)
    pub has_mine : entries_by before.number (journal value) ≡ before.mine

  -- a waiting pass took the slot where its ticket was found, and else nothing changed
  abbrev pub looked : Step (Option S) → Hold S N → ℕ → Hold S N → Type 0
  looked _ m found m' = (t : ℕ) → m.0.stage ≡ Waiting t → (found ≡ t → Took m.0 t m.1 m') × (found ≢ t → m' ≡ m)

  -- the slot was put back with this value
  abbrev pub passed : Step (Option S) → Hold S N → ℕ → Hold S N → Type 0
  passed _ m _ m' = (y : S) (added : List (ℕ × N)) → m.1 ≡ (0, Some y) ∷ rest m.1 → journal y ≡ m.0.seen ++ added → m' ≡ (raised m.0 (journal y) added, rest m.1)
