-- What a whole reading takes from a source, and a whole writing adds to a sink, where that is told.
use Rattle.std.specs.Prelude.{ℕ, ◌<◌, ◌≤◌, List, Option, length, take}
use Rattle.std.specs.Io.KnownBytes.{Consumes, Appends, IsAtEnd}

-- these bytes were all that was left
abbrev pub ConsumesAll : Option (List ℕ) → Option (List ℕ) → List ℕ → Type 0
ConsumesAll before after bytes = Consumes before after bytes × IsAtEnd after

-- more than so many bytes were read
abbrev pub ConsumesMoreThan : ℕ → Option (List ℕ) → Option (List ℕ) → Type 0
ConsumesMoreThan limit before after = (bytes : List ℕ) × Consumes before after bytes × (limit < length bytes)

-- no more than so many bytes were read
abbrev pub ConsumesAtMost : ℕ → Option (List ℕ) → Option (List ℕ) → Type 0
ConsumesAtMost limit before after = (bytes : List ℕ) × Consumes before after bytes × (length bytes ≤ limit)

-- a beginning of the text was written, and not the whole of it
abbrev pub AppendsPart : Option (List ℕ) → Option (List ℕ) → List ℕ → Type 0
AppendsPart before after text = (n : ℕ) × (n < length text) × Appends before after (take n text)
