-- Journals: lists of entries, each with the number of the pass that added it.
use Rattle.std.specs.Prelude.{◌≡◌, ℕ, ◌==◌, ◌⊎◌, List, [], ◌∷◌, ◌++◌, length, filter, if◌then◌else◌, nat_lt}

module _ {N : Type 0} where
  -- the entries with this number, in their order
  abbrev pub entries_by : ℕ → List (ℕ × N) → List (ℕ × N)
  entries_by number = filter (λ e. e.0 == number)

  abbrev pub IsPrefix : List (ℕ × N) → List (ℕ × N) → Type 0
  IsPrefix front whole = (rest : List (ℕ × N)) × (whole ≡ front ++ rest)

  -- the longer of two lists, and the first where they are equally long
  abbrev pub longer : List (ℕ × N) → List (ℕ × N) → List (ℕ × N)
  longer xs ys = if nat_lt (length xs) (length ys) then ys else xs

  -- at most one entry, with this number
  abbrev pub IsAtMostOne : ℕ → List (ℕ × N) → Type 0
  IsAtMostOne number added = (added ≡ []) ⊎ ((note : N) × (added ≡ (number, note) ∷ []))

  -- a journal goes on by at most one entry, which has this number
  abbrev pub AddsAtMostOne : ℕ → List (ℕ × N) → List (ℕ × N) → Type 0
  AddsAtMostOne number before after = (added : List (ℕ × N)) × (after ≡ before ++ added) × IsAtMostOne number added
