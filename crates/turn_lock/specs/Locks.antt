-- The lock as plain data, and the rule that every atomic step keeps.
use Rattle.std.specs.Prelude.{◌≡◌, ℕ, ◌+◌, ◌%◌, ◌^◌, ◌<◌, ◌≤◌, ◌⊎◌, Option, Some, List, [], All, Contains, length}
use mathlib.Core.Option.{Option as Maybe, none, some}
use lib.ListN.{get_elem?}
use Rattle.turn_lock.specs.Journals.{entries_by, IsPrefix}
use Rattle.turn_lock.specs.Views.{IsPass, HasTicket, all_parts, numbers_of, widths_of}
use Rattle.turn_lock.specs.declared.view.Stage.TheVariants.{Called}
use Rattle.turn_lock.specs.declared.view.Part.{Part}
use Rattle.turn_lock.specs.declared.view.View.{View}

-- The word of tickets, the word of the ticket that is served, what the slot has while it is at home (a value, or nothing), and the views of all seats
pub record Lock (S N : Type 0) : Type 0 where
  pub ticket : ℕ
  pub serving : ℕ
  pub slot : Maybe (Option S)
  pub views : List (View N)

module _ {N : Type 0} where
  -- the seat has this view
  abbrev pub At : List (View N) → ℕ → View N → Type 0
  At views seat v = get_elem? views seat ≡ some v

  -- no two seats are related to one thing
  abbrev pub Apart : {X : Type 0} → (View N → X → Type 0) → List (View N) → Type 0
  Apart {X} R views = (j k : ℕ) (v w : View N) (x : X) → At views j v → At views k w → R v x → R w x → j ≡ k

  -- some seat's view is so
  abbrev pub Someone : (View N → Type 0) → List (View N) → Type 0
  Someone P views = (j : ℕ) × (v : View N) × At views j v × P v

  abbrev pub Everyone : (View N → Type 0) → List (View N) → Type 0
  Everyone P views = (j : ℕ) (v : View N) → At views j v → P v

  -- the pass stands for the number
  abbrev pub StandsFor : View N → ℕ → Type 0
  StandsFor v n = IsPass v.stage × Contains (numbers_of v) n

  -- the pass, or one that joined it, has this width
  abbrev pub HasWidth : View N → ℕ → Type 0
  HasWidth v width = IsPass v.stage × Contains (widths_of v) width

  -- the pass gives numbers out
  abbrev pub Deals : View N → Unit {0} → Type 0
  Deals v _ = IsPass v.stage × (0 < v.made)

  -- Views have one width. Their numbers differ, and are below the greatest count of numbers given out, which is at most the number of passes. A number that was not given out has no entry.
  pub record Numbered (passes width most : ℕ) (log : List (ℕ × N)) (views : List (View N)) : Type 0 where
    pub few : passes < 2 ^ 32
    pub within : most ≤ passes
    pub greatest : Someone (λ v. IsPass v.stage × (v.made ≡ most)) views
    pub one_width : Everyone (λ v. IsPass v.stage → v.width ≡ width) views
    pub joined_width : Everyone (λ v. (size : ℕ) → HasWidth v size → size ≡ width) views
    pub made : Everyone (λ v. Deals v tt → v.made ≡ most) views
    pub dealer : Apart Deals views
    pub below : Everyone (λ v. (n : ℕ) → StandsFor v n → n < most) views
    pub differ : Apart StandsFor views
    pub unused : (n : ℕ) → most ≤ n → entries_by n log ≡ []

  -- The seats that have tickets stand in line, each once. Their tickets are the one that is served and those after it, and then comes the next ticket, all modulo 2 ^ 64.
  pub record InLine (ticket serving : ℕ) (line : List ℕ) (views : List (View N)) : Type 0 where
    pub word : serving < 2 ^ 64
    pub next : ticket ≡ (serving + length line) % 2 ^ 64
    pub stands : (k j : ℕ) → get_elem? line k ≡ some j → (v : View N) × At views j v × HasTicket v.stage ((serving + k) % 2 ^ 64)
    pub listed : (j : ℕ) (v : View N) (t : ℕ) → At views j v → HasTicket v.stage t → (k : ℕ) × (get_elem? line k ≡ some j)
    pub once : (k l j : ℕ) → get_elem? line k ≡ some j → get_elem? line l ≡ some j → k ≡ l

  -- the ticket of a pass whose turn it is is the one that is served
  abbrev pub IsServed : ℕ → List (View N) → Type 0
  IsServed serving = Everyone (λ v. (t : ℕ) → v.stage ≡ Called t → t ≡ serving)

  -- all that a view has seen, and what its notes say, is a beginning of the log; and the entries of each number that it stands for are all that the log has of it
  pub record Knows (log : List (ℕ × N)) (v : View N) : Type 0 where
    pub seen : IsPrefix v.seen log
    pub heard : All (λ xs. IsPrefix xs log) v.heard
    pub parts : IsPass v.stage → (i : ℕ) (p : Part N) → get_elem? (all_parts v) i ≡ some p → IsPrefix p.seen log × (entries_by p.number log ≡ p.mine)

  -- the view has seen the list, or a note says it
  abbrev pub Saw : List (ℕ × N) → View N → Type 0
  Saw xs v = (v.seen ≡ xs) ⊎ Contains v.heard xs

  -- the log is the longest list that was seen
  pub record Seen (log : List (ℕ × N)) (views : List (View N)) : Type 0 where
    pub longest : Someone (Saw log) views
    pub knows : Everyone (Knows log) views

  -- a pass that has a ticket has taken in no other pass, and keeps no note
  abbrev pub Alone : List (View N) → Type 0
  Alone = Everyone (λ v. (t : ℕ) → HasTicket v.stage t → (v.joined ≡ []) × (v.heard ≡ []))

module _ {S N : Type 0} (journal : S → List (ℕ × N)) (turns width : S → ℕ) where
  -- at home the slot has a value, with the log for its journal and the ticket that is served for its turn count, and it is no pass's turn
  pub record AtHome (size : ℕ) (log : List (ℕ × N)) (l : Lock S N) : Type 0 where
    pub value : S
    pub slot : l.slot ≡ some (Some value)
    pub journal_is : journal value ≡ log
    pub turns_is : turns value ≡ l.serving
    pub width_is : width value ≡ size
    pub idle : Everyone (λ v. (t : ℕ) → v.stage ≡ Called t → ⊥) l.views

  -- the slot is away with the pass whose turn it is, which has seen the log
  pub record Away (log : List (ℕ × N)) (l : Lock S N) : Type 0 where
    pub seat : ℕ
    pub view : View N
    pub at : At l.views seat view
    pub slot : l.slot ≡ none
    pub turn : view.stage ≡ Called l.serving
    pub sees : view.seen ≡ log

  -- The rule: there is a log, a width, a count of numbers given out, and a line
  pub record Rule (passes : ℕ) (l : Lock S N) : Type 0 where
    pub log : List (ℕ × N)
    pub size : ℕ
    pub most : ℕ
    pub line : List ℕ
    pub numbered : Numbered passes size most log l.views
    pub in_line : InLine l.ticket l.serving line l.views
    pub served : IsServed l.serving l.views
    pub seen : Seen log l.views
    pub slot : AtHome size log l ⊎ Away log l
    pub alone : Alone l.views
