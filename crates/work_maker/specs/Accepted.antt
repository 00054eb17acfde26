-- What is said of a PIE that is handed in: it is accepted alone, or its file is admitted, and it gives these outputs.
use Rattle.std.specs.Prelude.{ℕ, ◌≡◌, List, Ok}
use Rattle.cairo_model.specs.Machine.Values.{Datum}
use Rattle.cairo_model.specs.Machine.Steps.{Registers}
use Rattle.cairo_model.specs.Pie.Acceptance.{AcceptedWith, CheckedRecord, FactRecord}
use Rattle.cairo_model.specs.Pie.Records.{PieRecord}
use Rattle.cairo_model.specs.Refusals.Verdicts.{IsVerdict, admitted}
use Rattle.hex.specs.Hex.{decode_of}

-- accepted alone by its isolated run, with a fact of these outputs
pub record IsAcceptedGiving (pie : PieRecord) (outputs : List ℕ) : Type 0 where
  pub fact : FactRecord
  pub states : List (Registers Datum)
  pub accepted : AcceptedWith pie fact states
  pub gives : fact.outputs ≡ outputs

-- the verdict on the bytes of a file is that its PIE is admitted, with a fact of these outputs
pub record IsAdmittedGiving (bytes outputs : List ℕ) : Type 0 where
  pub found : CheckedRecord
  pub verdict : IsVerdict bytes (admitted found)
  pub gives : found.fact.outputs ≡ outputs

-- hexadecimal digits of such a file
pub record SpellsAdmitted (digits outputs : List ℕ) : Type 0 where
  pub bytes : List ℕ
  pub decodes : decode_of digits ≡ Ok bytes
  pub is_admitted : IsAdmittedGiving bytes outputs
