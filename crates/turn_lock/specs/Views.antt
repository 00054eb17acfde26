-- What a seat of the lock knows: its view.
use Rattle.std.specs.Prelude.{◌≡◌, ℕ, ◌+◌, List, [], ◌∷◌, ◌++◌, map, max}
use Rattle.turn_lock.specs.Journals.{longer}
use Rattle.turn_lock.specs.declared.view.Stage.{Stage}
use Rattle.turn_lock.specs.declared.view.Stage.TheVariants.{Resting, Waiting, Called, Note, Spent}
use Rattle.turn_lock.specs.declared.view.Part.{Part}
use Rattle.turn_lock.specs.declared.view.View.{View}

-- the view is that of a pass
abbrev pub IsPass : Stage → Type 0
IsPass Resting = Unit {0}
IsPass (Waiting t) = Unit {0}
IsPass (Called t) = Unit {0}
IsPass Note = ⊥
IsPass Spent = ⊥

-- the pass has drawn the ticket t, and has not passed its turn on
abbrev pub HasTicket : Stage → ℕ → Type 0
HasTicket Resting t = ⊥
HasTicket (Waiting u) t = u ≡ t
HasTicket (Called u) t = u ≡ t
HasTicket Note t = ⊥
HasTicket Spent t = ⊥

module _ {N : Type 0} where
  -- the view's own number, with what it has seen and its entries
  abbrev pub own_part : View N → Part N
  own_part v = record { number = v.number; width = v.width; seen = v.seen; mine = v.mine }

  abbrev pub parts_or : List (Part N) → Part N → List (Part N)
  parts_or [] own = own ∷ []
  parts_or (p ∷ ps) own = p ∷ ps

  -- the numbers that the view stands for, each with what it had seen and its entries: its own, and those of the passes that joined it
  abbrev pub all_parts : View N → List (Part N)
  all_parts v = parts_or v.joined (own_part v)

  abbrev pub numbers_or : List (Part N) → ℕ → List ℕ
  numbers_or [] own = own ∷ []
  numbers_or (p ∷ ps) own = map (λ q. q.number) (p ∷ ps)

  -- the numbers of these parts
  abbrev pub numbers_of : View N → List ℕ
  numbers_of v = numbers_or v.joined v.number

  abbrev pub widths_or : List (Part N) → ℕ → List ℕ
  widths_or [] own = own ∷ []
  widths_or (p ∷ ps) own = map (λ q. q.width) (p ∷ ps)

  -- the widths of these parts
  abbrev pub widths_of : View N → List ℕ
  widths_of v = widths_or v.joined v.width

  -- a pass that has no ticket, has taken in no other pass, and keeps no note
  pub record IsAtRest (v : View N) : Type 0 where
    pub rests : v.stage ≡ Resting
    pub alone : v.joined ≡ []
    pub quiet : v.heard ≡ []

  -- the view of a number that is given out, which has seen nothing
  abbrev pub newcomer : ℕ → ℕ → ℕ → View N
  newcomer number width made = record { number = number; width = width; seen = []; mine = []; made = made; stage = Resting; heard = []; joined = [] }

  abbrev pub waiting : View N → ℕ → View N
  waiting v t = record v { stage = Waiting t }

  -- the turn has come, and the journal of the value in the slot is seen
  abbrev pub called : View N → ℕ → List (ℕ × N) → View N
  called v t log = record v { stage = Called t; seen = log }

  -- the turn was passed on, with these entries added to the journal
  abbrev pub raised : View N → List (ℕ × N) → List (ℕ × N) → View N
  raised v log added = record v { stage = Resting; seen = log; mine = v.mine ++ added }

  abbrev pub dealt : View N → View N
  dealt v = record v { made = v.made + 1 }

  -- the view of the number that is given out next
  abbrev pub next_pass : View N → View N
  next_pass v = newcomer v.made v.width 0

  -- a copy of what the view has seen, with no number
  abbrev pub note_of : View N → View N
  note_of v = record (newcomer 0 0 0) { stage = Note; seen = v.seen }

  -- a view that is left over by a join
  abbrev pub spent : View N
  spent = record (newcomer 0 0 0) { stage = Spent }

  -- the note is kept beside what was seen
  abbrev pub hearing : View N → View N → View N
  hearing v note = record v { heard = note.seen ∷ [] }

  abbrev pub longest : List (ℕ × N) → List (List (ℕ × N)) → List (ℕ × N)
  longest seen [] = seen
  longest seen (x ∷ xs) = longest (longer seen x) xs

  -- of what was seen and what the note says, the longer
  abbrev pub settled : View N → View N
  settled v = record v { seen = longest v.seen v.heard; heard = [] }

  -- a pass that has taken in another
  abbrev pub gathered : View N → View N → View N
  gathered v w = record v { seen = longer v.seen w.seen; made = max v.made w.made; joined = own_part w ∷ all_parts v }
