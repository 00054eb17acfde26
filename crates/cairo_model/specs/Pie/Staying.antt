-- Values, memories and runs that stay in the segments of a PIE (docs/MACHINE.md).
use Rattle.std.specs.Prelude.{ℕ, ◌≡◌, List, All, Option, Some}
use Rattle.cairo_model.specs.Machine.Values.{Datum, Sum, Difference, Product}
use Rattle.cairo_model.specs.Machine.Steps.{Registers, value_arithmetic, RunsTo}
use Rattle.cairo_model.specs.Pie.Records.{IsValueIn}

-- sums, differences and products of values in so many segments lie in them too
pub record ValuesStay (segments : ℕ) : Type 0 where
  pub sums : (a b c : Datum) → IsValueIn segments a → IsValueIn segments b → Sum a b ≡ Some c → IsValueIn segments c
  pub differences : (a b c : Datum) → IsValueIn segments a → IsValueIn segments b → Difference a b ≡ Some c → IsValueIn segments c
  pub products : (a b c : Datum) → IsValueIn segments a → IsValueIn segments b → Product a b ≡ Some c → IsValueIn segments c

-- each value of a memory is a field number, or a place in one of so many segments
abbrev pub AllValuesIn : ℕ → (Datum → Option Datum) → Type 0
AllValuesIn segments m = (a v : Datum) → m a ≡ Some v → IsValueIn segments v

-- registers that hold field numbers and places in so many segments
pub record AreIn (segments : ℕ) (s : Registers Datum) : Type 0 where
  pub pc : IsValueIn segments s.pc
  pub ap : IsValueIn segments s.ap
  pub fp : IsValueIn segments s.fp

-- each state of a run over this memory that begins in such a state is one
abbrev pub StatesStay : ℕ → (Datum → Option Datum) → Type 0
StatesStay segments m = (s t : Registers Datum) (ss : List (Registers Datum)) → AreIn segments s → RunsTo value_arithmetic m s ss t → All (AreIn segments) ss
