-- What a check has found so far.
use Rattle.std.specs.Prelude.{ℕ, ◌≡◌, ◌+◌, ◌*◌, ◌<◌, List, length, Option, Some, None}
use Rattle.builtin_hash.specs.Instances.{cells_per_instance}
use Rattle.cairo_model.specs.Certificate.Records.{CertRecord, batch}
use Rattle.cairo_model.specs.Machine.FieldMemories.{FieldCell, cell_at}
use Rattle.cairo_model.specs.Machine.Runs.{LeadsOn}
use Rattle.cairo_model.specs.Machine.Steps.{Registers, field_arithmetic}
use Rattle.cairo_model.specs.Pie.Acceptance.{CheckedRecord}
use Rattle.cairo_model.specs.Refusals.FirstFailing.{IsFirstFailing, NoneBelow}
use Rattle.boot_program.specs.Faults.Causes.{IsBatchCause, IsRunCause}
use Rattle.boot_program.specs.Faults.Records.{fault_number}
use Rattle.boot_program.specs.Faults.Rules.{IsEndRule, IsInSpan, IsRowCause, IsStartRule, KeepsEndRule, KeepsStartRule, OfBatch, RangeCellAt, WholeInstanceAt}
use Rattle.boot_program.specs.Words.{HasBoot}
use Rattle.boot_program.specs.declared.run_fault.RowCause.{RowCause}

-- no cause with a number below this one applies
abbrev pub Passes : CertRecord → ℕ → Type 0
Passes cert n = NoneBelow fault_number (IsRunCause cert) n

abbrev pub BatchPasses : CertRecord → List CheckedRecord → ℕ → Type 0
BatchPasses cert tasks n = NoneBelow fault_number (IsBatchCause cert tasks) n

-- the bootloader, the start and the end are as they should be
pub record KeepsFrame (cert : CertRecord) : Type 0 where
  pub boot : OfBatch cert (HasBoot (cell_at cert.cells))
  pub start : (k : ℕ) → IsStartRule k → KeepsStartRule cert k
  pub end : (k : ℕ) → IsEndRule k → KeepsEndRule cert k

-- and so are the spans of the builtins
pub record KeepsSpans (cert : CertRecord) : Type 0 where
  pub range : (k : ℕ) → IsInSpan cert.range k → RangeCellAt (cell_at cert.cells) (cert.range.start + k)
  pub hash : (k : ℕ) → IsInSpan cert.hash (cells_per_instance * k) → WholeInstanceAt (cell_at cert.cells) cert.hash.stop (cert.hash.start + cells_per_instance * k)

-- and so is each row
abbrev pub EachRowLeads : CertRecord → Type 0
EachRowLeads cert = (k : ℕ) → k + 1 < length cert.states → LeadsOn field_arithmetic (cell_at cert.cells) cert.states k

-- the first row that doesn't lead on, and why, or that there is none
abbrev pub IsRowAnswer : List FieldCell → List (Registers ℕ) → Option (ℕ × RowCause) → Type 0
IsRowAnswer cells states (Some found) = IsFirstFailing (λ k. k + 1 < length states) (LeadsOn field_arithmetic (cell_at cells) states) found.0 × IsRowCause cells states found.0 found.1
IsRowAnswer cells states None = (k : ℕ) → k + 1 < length states → LeadsOn field_arithmetic (cell_at cells) states k

pub record KeepsRun (cert : CertRecord) : Type 0 where
  pub frame : KeepsFrame cert
  pub spans : KeepsSpans cert
  pub rows : EachRowLeads cert

-- the same of a certificate of a batch
pub record KeepsBatchRun (cert : CertRecord) : Type 0 where
  pub is_batch : cert.kind ≡ batch
  pub run : KeepsRun cert
