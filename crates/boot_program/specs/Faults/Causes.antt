-- Why a certificate isn't accepted: the causes by their numbers, each stated on its own, and the first that applies
-- (docs/CERTIFICATE.md).
use Rattle.std.specs.Prelude.{ℕ, ◌≡◌, ◌+◌, ◌*◌, ◌<◌, ◌⊎◌, if◌then◌else◌, nat_lt, List, length, slice_get, Option, Some, None}
use Rattle.builtin_hash.specs.Instances.{cells_per_instance}
use Rattle.cairo_model.specs.Certificate.Acceptance.{MachineAccepts}
use Rattle.cairo_model.specs.Certificate.Records.{CertRecord, alone, batch}
use Rattle.cairo_model.specs.Machine.FieldMemories.{cell_at}
use Rattle.cairo_model.specs.Machine.Runs.{LeadsOn}
use Rattle.cairo_model.specs.Machine.Steps.{field_arithmetic}
use Rattle.cairo_model.specs.Pie.Acceptance.{CheckedRecord}
use Rattle.cairo_model.specs.Refusals.FirstFailing.{IsFirstCause, IsFirstFailing}
use Rattle.boot_program.specs.Batch.Acceptance.{BootBound, facts_of}
use Rattle.boot_program.specs.Batch.Output.{batch_output}
use Rattle.boot_program.specs.Faults.Records.{FaultCause, at_boot, at_start, at_end, at_range, at_hash, at_row, at_output, at_task, fault_number}
use Rattle.boot_program.specs.Faults.Rules.{HasBootWord, IsBootAddress, IsEndRule, IsInSpan, IsRowCause, IsStartRule, IsThere, KeepsEndRule, KeepsStartRule, OfBatch, RangeCellAt, WholeInstanceAt}
use Rattle.boot_program.specs.Faults.Tasks.{IsNumbered, ShowsTask, TaskStands}
use Rattle.boot_program.specs.Places.{entry_pc}

-- ---- a certificate by itself

-- the machine accepts it, and where it is of a batch, its run is the bootloader's
pub record AcceptsRun (cert : CertRecord) : Type 0 where
  pub accepted : MachineAccepts cert
  pub bound : OfBatch cert (BootBound cert)

abbrev pub IsRunCause : CertRecord → FaultCause → Type 0
IsRunCause cert (at_boot address) = (cert.kind ≡ batch) × IsFirstFailing IsBootAddress (HasBootWord (cell_at cert.cells)) address
IsRunCause cert (at_start k) = IsFirstFailing IsStartRule (KeepsStartRule cert) k
IsRunCause cert (at_end k) = IsFirstFailing IsEndRule (KeepsEndRule cert) k
IsRunCause cert (at_range i) = IsFirstFailing (IsInSpan cert.range) (λ j. RangeCellAt (cell_at cert.cells) (cert.range.start + j)) i
IsRunCause cert (at_hash i) =
    IsFirstFailing (λ j. IsInSpan cert.hash (cells_per_instance * j)) (λ j. WholeInstanceAt (cell_at cert.cells) cert.hash.stop (cert.hash.start + cells_per_instance * j)) i
IsRunCause cert (at_row n cause) = IsFirstFailing (λ j. j + 1 < length cert.states) (LeadsOn field_arithmetic (cell_at cert.cells) cert.states) n × IsRowCause cert.cells cert.states n cause
IsRunCause cert (at_output i stands wanted) = IsFirstFailing (IsInSpan cert.output) (λ j. IsThere (cell_at cert.cells (cert.output.start + j))) i × ((stands ≡ None) × (wanted ≡ None))
IsRunCause cert (at_task i segment offset) = ⊥

-- the cause applies, and none of a lower number does
abbrev pub IsFirstRunFault : CertRecord → FaultCause → Type 0
IsFirstRunFault cert cause = IsFirstCause fault_number (IsRunCause cert) cause

-- ---- a certificate with the tasks that it should be of

-- the number at this index of the output span, if there is one
abbrev pub printed_at : CertRecord → ℕ → Option ℕ
printed_at cert i = if nat_lt (cert.output.start + i) cert.output.stop then cell_at cert.cells (cert.output.start + i) else None

-- the numbers that the tasks print together
abbrev pub wanted_of : List CheckedRecord → List ℕ
wanted_of tasks = batch_output (facts_of tasks)

-- the span or the numbers reach this index
abbrev pub IsOutputIndex : CertRecord → List ℕ → ℕ → Type 0
IsOutputIndex cert numbers i = IsInSpan cert.output i ⊎ (i < length numbers)

-- the certificate prints at this index the number that stands there
abbrev pub PrintsAt : CertRecord → List ℕ → ℕ → Type 0
PrintsAt cert numbers i = (n : ℕ) × ((printed_at cert i ≡ Some n) × (slice_get numbers i ≡ Some n))

abbrev pub IsBatchCause : CertRecord → List CheckedRecord → FaultCause → Type 0
IsBatchCause cert tasks (at_boot address) = ((cert.kind ≡ alone) × (address ≡ entry_pc)) ⊎ IsRunCause cert (at_boot address)
IsBatchCause cert tasks (at_start k) = IsRunCause cert (at_start k)
IsBatchCause cert tasks (at_end k) = IsRunCause cert (at_end k)
IsBatchCause cert tasks (at_range i) = IsRunCause cert (at_range i)
IsBatchCause cert tasks (at_hash i) = IsRunCause cert (at_hash i)
IsBatchCause cert tasks (at_row n cause) = IsRunCause cert (at_row n cause)
IsBatchCause cert tasks (at_output i stands wanted) = IsFirstFailing (IsOutputIndex cert (wanted_of tasks)) (PrintsAt cert (wanted_of tasks)) i × ((stands ≡ printed_at cert i) × (wanted ≡ slice_get (wanted_of tasks) i))
IsBatchCause cert tasks (at_task i segment offset) = IsFirstFailing (IsNumbered cert tasks) (TaskStands cert tasks) i × ShowsTask cert tasks i segment offset

abbrev pub IsFirstBatchFault : CertRecord → List CheckedRecord → FaultCause → Type 0
IsFirstBatchFault cert tasks cause = IsFirstCause fault_number (IsBatchCause cert tasks) cause
