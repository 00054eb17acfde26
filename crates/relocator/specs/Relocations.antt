-- Relocation carries the machine over values to the machine over the field (docs/MACHINE.md).
use Rattle.std.specs.Prelude.{ℕ, ◌≡◌, ◌<◌, List, length, map, Option, Some}
use Rattle.goldi_field.specs.Numbers.{sum_of, difference_of, product_of}
use Rattle.cairo_model.specs.Machine.Values.{Datum, number, place, Sum, Difference, Product, is_zero_datum}
use Rattle.cairo_model.specs.Machine.Steps.{Registers, field_arithmetic, value_arithmetic, Step, Run, RunsTo}
use Rattle.cairo_model.specs.Pie.Records.{MemoryCell, IsValueIn, memory_of}
use Rattle.cairo_model.specs.Pie.Layouts.{AreInBounds, relocated, relocated_state}
use Rattle.cairo_model.specs.Pie.Relocation.{HasRelocated}
use Rattle.cairo_model.specs.Pie.Staying.{AllValuesIn}

-- a place's segment is below so many
abbrev pub IsIn : ℕ → Datum → Type 0
IsIn segments (number n) = Unit {0}
IsIn segments (place s o) = s < segments

-- Relocation by any bases is a homomorphism of the two arithmetics where value arithmetic is defined. The test for zero
-- alone asks for bases in their bounds: at a base of 0 a place would become 0.
pub record KeepsArithmetic (bases : List ℕ) : Type 0 where
  pub sums : (a b c : Datum) → Sum a b ≡ Some c → relocated bases c ≡ sum_of (relocated bases a) (relocated bases b)
  pub differences : (a b c : Datum) → IsValueIn (length bases) a → IsValueIn (length bases) b → Difference a b ≡ Some c
      → relocated bases c ≡ difference_of (relocated bases a) (relocated bases b)
  pub products : (a b c : Datum) → Product a b ≡ Some c → relocated bases c ≡ product_of (relocated bases a) (relocated bases b)
  pub zeros : AreInBounds bases → (a : Datum) → IsValueIn (length bases) a → is_zero_datum a ≡ field_arithmetic.is_zero (relocated bases a)

abbrev pub KeepsSteps : List ℕ → Type 0
KeepsSteps bases = (m : Datum → Option Datum) (field : ℕ → Option ℕ) → AllValuesIn (length bases) m → HasRelocated bases m field
    → (s t : Registers Datum) → Step value_arithmetic m s t → Step field_arithmetic field (relocated_state bases s) (relocated_state bases t)

abbrev pub KeepsRuns : List ℕ → Type 0
KeepsRuns bases = (m : Datum → Option Datum) (field : ℕ → Option ℕ) → AllValuesIn (length bases) m → HasRelocated bases m field
    → (ss : List (Registers Datum)) → Run value_arithmetic m ss → Run field_arithmetic field (map (relocated_state bases) ss)

-- A run over these cells from one state to another, relocated, is a run over each field memory that has the relocated
-- cells.
abbrev pub RunsOverField : List ℕ → List MemoryCell → Type 0
RunsOverField bases cells = (field : ℕ → Option ℕ) → HasRelocated bases (memory_of cells) field
    → (s t : Registers Datum) (ss : List (Registers Datum)) → RunsTo value_arithmetic (memory_of cells) s ss t
    → RunsTo field_arithmetic field (relocated_state bases s) (map (relocated_state bases) ss) (relocated_state bases t)
