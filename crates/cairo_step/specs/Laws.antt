-- Laws of the equations of a row.
use Rattle.std.specs.Prelude.{ℕ, ◌↔◌, Option}
use Rattle.cairo_model.specs.Certificate.Records.{AreRegisters}
use Rattle.cairo_model.specs.Machine.FieldMemories.{IsFieldMemory}
use Rattle.cairo_model.specs.Machine.Steps.{Registers, field_arithmetic, Step}
use Rattle.cairo_step.specs.Equations.{Equations}

-- over a field memory the equations hold exactly where the machine can go from the one state to the other
abbrev pub EquationsAreSteps : Type 0
EquationsAreSteps = (m : ℕ → Option ℕ) (s t : Registers ℕ) → IsFieldMemory m → AreRegisters s → AreRegisters t → Equations m s t ↔ Step field_arithmetic m s t
