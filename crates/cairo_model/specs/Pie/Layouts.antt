-- Where the segments of a PIE are put in the field's memory, and what values become there (docs/MACHINE.md).
use Rattle.std.specs.Prelude.{ℕ, ◌≡◌, ◌≢◌, ◌+◌, ◌^◌, ◌<◌, ◌≤◌, List, [], ◌∷◌, length, All, slice_index}
use Rattle.goldi_field.specs.Numbers.{sum_of}
use Rattle.cairo_model.specs.Machine.Values.{Datum, number, place}
use Rattle.cairo_model.specs.Machine.Steps.{Registers}
use Rattle.cairo_model.specs.Pie.Records.{MemoryCell}
use Rattle.cairo_model.specs.Machine.FieldMemories.{FieldCell}

-- the base of a segment, 0 where there is none
abbrev pub base_of : List ℕ → ℕ → ℕ
base_of bases segment = slice_index bases segment

abbrev pub IsInBounds : ℕ → Type 0
IsInBounds base = (1 ≤ base) × (base < 2 ^ 32)

abbrev pub AreInBounds : List ℕ → Type 0
AreInBounds bases = All IsInBounds bases

-- no address lies in both of two stretches
abbrev pub ShareNone : ℕ → ℕ → ℕ → ℕ → Type 0
ShareNone base size other other_size = (o q : ℕ) → o < size → q < other_size → base + o ≢ other + q

-- two segments share no address
abbrev pub IsApartFrom : List ℕ → List ℕ → ℕ → ℕ → Type 0
IsApartFrom bases sizes s t = s ≢ t → ShareNone (base_of bases s) (slice_index sizes s) (base_of bases t) (slice_index sizes t)

-- a segment shares no address with any other
abbrev pub IsApart : List ℕ → List ℕ → ℕ → Type 0
IsApart bases sizes s = (t : ℕ) → t < length sizes → IsApartFrom bases sizes s t

abbrev pub AreApart : List ℕ → List ℕ → Type 0
AreApart bases sizes = (s : ℕ) → s < length sizes → IsApart bases sizes s

-- One base for each segment, each from 1 to below 2 ^ 32, and no address in the stretches of two segments.
pub record Fits (bases sizes : List ℕ) : Type 0 where
  pub one_each : length bases ≡ length sizes
  pub in_bounds : AreInBounds bases
  pub apart : AreApart bases sizes

-- a number is itself, and a place is the address that lies its offset above its segment's base
abbrev pub relocated : List ℕ → Datum → ℕ
relocated bases (number n) = n
relocated bases (place segment offset) = sum_of (base_of bases segment) offset

abbrev pub relocated_state : List ℕ → Registers Datum → Registers ℕ
relocated_state bases s = record { pc = relocated bases s.pc; ap = relocated bases s.ap; fp = relocated bases s.fp }

abbrev pub relocated_cell : List ℕ → MemoryCell → FieldCell
relocated_cell bases c = (relocated bases (place c.segment c.offset), relocated bases c.value)

-- the bases of the layout alone: segment 0 at 1, and each further one a cell after the end of the one before
abbrev pub bases_from : ℕ → List ℕ → List ℕ
bases_from base [] = []
bases_from base (size ∷ sizes) = base ∷ bases_from (base + size + 1) sizes

abbrev pub lone_bases : List ℕ → List ℕ
lone_bases sizes = bases_from 1 sizes
