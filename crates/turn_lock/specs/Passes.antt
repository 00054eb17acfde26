-- A pass as contracts see it, and what a turn does.
use Rattle.std.specs.Prelude.{◌≡◌, ℕ, List, [], ◌++◌, map, Contains}
use Rattle.atomic_table.specs.Seated.{TableId}
use Rattle.turn_lock.specs.Journals.{entries_by, IsPrefix, IsAtMostOne}

-- a pass: which lock it belongs to, its number, the width of the lock's value, the journal as the pass saw it last, and its own entries
pub record Token (N : Type 0) : Type 0 where
  pub lock : TableId
  pub number : ℕ
  pub width : ℕ
  pub seen : List (ℕ × N)
  pub mine : List (ℕ × N)

-- a lock: which one it is, and how many passes it has
pub record Name : Type 0 where
  pub lock : TableId
  pub passes : ℕ

module _ {N : Type 0} where
  -- a pass of this lock, with this number, that has seen nothing
  abbrev pub fresh : TableId → ℕ → ℕ → Token N
  fresh lock width number = record { lock = lock; number = number; width = width; seen = []; mine = [] }

  -- the number is that of one of the passes
  abbrev pub IsNumberOf : List (Token N) → ℕ → Type 0
  IsNumberOf passes number = Contains (map (λ p. p.number) passes) number

module _ {S N : Type 0} (journal : S → List (ℕ × N)) (width : S → ℕ) where
  -- A pass took a turn. The change was made to a value of the pass's width, whose journal begins with all that the pass had seen and has no other entries of its number than its own. The pass has then seen the journal after the change, and has the entry that was added, if one was.
  pub record Turned {C A : Type 0} (does : C → ℕ → S → S → A → Type 0) (change : C) (old new : Token N) (answer : A) : Type 0 where
    pub before : S
    pub after : S
    pub added : List (ℕ × N)
    pub width_is : width before ≡ old.width
    pub has_seen : IsPrefix old.seen (journal before)
    pub has_mine : entries_by old.number (journal before) ≡ old.mine
    pub done : does change old.number before after answer
    pub grows : journal after ≡ journal before ++ added
    pub one : IsAtMostOne old.number added
    pub becomes : new ≡ record old { seen = journal after; mine = old.mine ++ added }
