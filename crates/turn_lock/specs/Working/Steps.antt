-- The atomic steps of the lock, by kinds. Each is a relation between the lock before and after it.
use Rattle.std.specs.Prelude.{◌≡◌, ◌≢◌, ℕ, ◌+◌, ◌%◌, ◌^◌, ◌<◌, Option, Some, None, List, [], ◌∷◌, ◌++◌, Contains, slice_set}
use mathlib.Core.Option.{some, none}
use Rattle.turn_lock.specs.Journals.{IsAtMostOne}
use Rattle.turn_lock.specs.Views.{IsAtRest, waiting, called, raised, dealt, next_pass, note_of, spent, hearing, settled, gathered, numbers_of}
use Rattle.turn_lock.specs.Locks.{Lock, At}
use Rattle.turn_lock.specs.declared.view.Stage.TheVariants.{Resting, Waiting, Called, Note}
use Rattle.turn_lock.specs.declared.view.View.{View}

module _ {S N : Type 0} where
  abbrev pub with_view : Lock S N → ℕ → View N → Lock S N
  with_view l seat v = record l { views = slice_set l.views seat v }

  abbrev pub with_new : Lock S N → View N → Lock S N
  with_new l v = record l { views = l.views ++ v ∷ [] }

  -- 1. A resting pass draws the next ticket: one is added to the word of tickets.
  abbrev pub drawn : Lock S N → ℕ → View N → Lock S N
  drawn l seat v = record (with_view l seat (waiting v l.ticket)) { ticket = (l.ticket + 1) % 2 ^ 64 }

  pub record Draw (seat : ℕ) (l l' : Lock S N) : Type 0 where
    pub view : View N
    pub at : At l.views seat view
    pub rests : IsAtRest view
    pub becomes : l' ≡ drawn l seat view

module _ {S N : Type 0} (journal : S → List (ℕ × N)) (turns width : S → ℕ) where
  -- 2. A waiting pass reads the word that is served. Where it is the pass's ticket, the seat takes the slot, and the pass has seen the journal of the value there.
  abbrev pub taken : Lock S N → ℕ → View N → ℕ → S → Lock S N
  taken l seat v t y = record (with_view l seat (called v t (journal y))) { slot = none }

  pub record Look (seat t : ℕ) (l l' : Lock S N) : Type 0 where
    pub view : View N
    pub at : At l.views seat view
    pub waits : view.stage ≡ Waiting t
    pub early : l.serving ≢ t → l' ≡ l
    pub due : l.serving ≡ t → (y : S) × (l.slot ≡ some (Some y)) × (l' ≡ taken l seat view t y)

  -- 3. The pass whose turn it is takes the value out of the slot, which is away with its seat: no word and no view changes.
  pub record TakeOut (seat : ℕ) (inside inside' : Option S) (l l' : Lock S N) : Type 0 where
    pub view : View N
    pub ticket : ℕ
    pub value : S
    pub at : At l.views seat view
    pub turn : view.stage ≡ Called ticket
    pub has : inside ≡ Some value
    pub leaves : inside' ≡ None
    pub becomes : l' ≡ l

  -- 4. It puts a value back into the slot: no word and no view changes.
  pub record PutBack (seat : ℕ) (inside inside' : Option S) (l l' : Lock S N) : Type 0 where
    pub view : View N
    pub ticket : ℕ
    pub value : S
    pub at : At l.views seat view
    pub turn : view.stage ≡ Called ticket
    pub empty : inside ≡ None
    pub has : inside' ≡ Some value
    pub becomes : l' ≡ l

  -- 5. The pass whose turn it is puts the slot back, and one is added to the word that is served. The slot has a value of the same width and of one turn more, whose journal is what was seen, and at most one entry of the pass.
  abbrev pub raises : Lock S N → ℕ → View N → S → List (ℕ × N) → Lock S N
  raises l seat v y added = record (with_view l seat (raised v (journal y) added)) { serving = (l.serving + 1) % 2 ^ 64; slot = some (Some y) }

  pub record Raise (seat : ℕ) (l l' : Lock S N) : Type 0 where
    pub view : View N
    pub ticket : ℕ
    pub value : S
    pub added : List (ℕ × N)
    pub at : At l.views seat view
    pub turn : view.stage ≡ Called ticket
    pub counts : turns value ≡ (ticket + 1) % 2 ^ 64
    pub keeps_width : width value ≡ view.width
    pub grows : journal value ≡ view.seen ++ added
    pub one : IsAtMostOne view.number added
    pub becomes : l' ≡ raises l seat view value added

module _ {S N : Type 0} where
  -- 6. The pass that gives numbers out gives the next one to a new seat.
  pub record Deal (passes seat : ℕ) (l l' : Lock S N) : Type 0 where
    pub view : View N
    pub at : At l.views seat view
    pub rests : IsAtRest view
    pub deals : 0 < view.made
    pub room : view.made < passes
    pub becomes : l' ≡ with_new (with_view l seat (dealt view)) (next_pass view)

  -- 7. A resting pass takes in another, whose seat is spent.
  pub record Gather (seat other : ℕ) (l l' : Lock S N) : Type 0 where
    pub view : View N
    pub taken_in : View N
    pub at : At l.views seat view
    pub at_other : At l.views other taken_in
    pub apart : other ≢ seat
    pub rests : view.stage ≡ Resting
    pub quiet : view.heard ≡ []
    pub rests_too : IsAtRest taken_in
    pub becomes : l' ≡ with_view (with_view l seat (gathered view taken_in)) other spent

  -- 8. The table ends, once a resting pass stands for every number.
  pub record Close (passes seat : ℕ) (l : Lock S N) : Type 0 where
    pub view : View N
    pub at : At l.views seat view
    pub rests : view.stage ≡ Resting
    pub all : (n : ℕ) → n < passes → Contains (numbers_of view) n

  -- 9. Copies what a resting pass has seen into a note, with a seat of its own;
  pub record Copy (seat : ℕ) (l l' : Lock S N) : Type 0 where
    pub view : View N
    pub at : At l.views seat view
    pub rests : IsAtRest view
    pub becomes : l' ≡ with_new l (note_of view)

  -- a resting pass takes the note in, and keeps both lists;
  pub record Hear (seat other : ℕ) (l l' : Lock S N) : Type 0 where
    pub view : View N
    pub note : View N
    pub at : At l.views seat view
    pub at_other : At l.views other note
    pub apart : other ≢ seat
    pub rests : IsAtRest view
    pub is_note : note.stage ≡ Note
    pub quiet_note : note.heard ≡ []
    pub becomes : l' ≡ with_view (with_view l seat (hearing view note)) other spent

  -- and then has seen the longer of them.
  pub record Settle (seat : ℕ) (l l' : Lock S N) : Type 0 where
    pub view : View N
    pub at : At l.views seat view
    pub rests : view.stage ≡ Resting
    pub alone : view.joined ≡ []
    pub becomes : l' ≡ with_view l seat (settled view)
