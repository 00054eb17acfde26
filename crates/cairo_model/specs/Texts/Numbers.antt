-- How numbers, values and faults are written: in decimal, each after one space.
use Rattle.std.specs.Prelude.{ℕ, List, ◌∷◌, ◌++◌, codes, decimal}
use Rattle.std.specs.List.{flat_map}
use Rattle.cairo_model.specs.Machine.Values.{Datum, number, place}

abbrev pub numbers_text : List ℕ → List ℕ
numbers_text numbers = flat_map (λ n. 32 ∷ decimal n) numbers

-- a number, or the segment and the offset of a place with a colon between them
abbrev pub value_text : Datum → List ℕ
value_text (number n) = 32 ∷ decimal n
value_text (place segment offset) = 32 ∷ decimal segment ++ codes ":" ++ decimal offset
