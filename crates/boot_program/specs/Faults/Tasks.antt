-- When a task does not stand in the certificate of its batch, and the place that shows it (docs/CERTIFICATE.md).
use Rattle.std.specs.Prelude.{ℕ, ◌≡◌, ◌≢◌, ◌<◌, ◌⊎◌, List, length, Option, Some}
use Rattle.cairo_model.specs.Certificate.Records.{CertRecord, MarkRecord}
use Rattle.cairo_model.specs.Machine.FieldMemories.{cell_at}
use Rattle.cairo_model.specs.Machine.Values.{Datum, place}
use Rattle.cairo_model.specs.Pie.Acceptance.{CheckedRecord}
use Rattle.cairo_model.specs.Pie.Layouts.{relocated}
use Rattle.cairo_model.specs.Pie.Records.{MemoryCell, value_at}
use Rattle.cairo_model.specs.Segments.{return_pc_segment}
use Rattle.boot_program.specs.Batch.Standing.{IsMarkOf, IsTask, StandsIn}

-- there is a task or a mark of this number
abbrev pub IsNumbered : CertRecord → List CheckedRecord → ℕ → Type 0
IsNumbered cert tasks i = (i < length tasks) ⊎ (i < length cert.tasks)

-- there is a task of this number, and it stands in the certificate
abbrev pub TaskStands : CertRecord → List CheckedRecord → ℕ → Type 0
TaskStands cert tasks i = (task : CheckedRecord) × (IsTask tasks i task × StandsIn cert i task)

-- the mark and the task of this number, with a base for each segment
pub record IsPlacedTask (cert : CertRecord) (tasks : List CheckedRecord) (i : ℕ) (mark : MarkRecord) (task : CheckedRecord) : Type 0 where
  pub is_mark : IsMarkOf cert i mark
  pub is_task : IsTask tasks i task
  pub one_base_each : length mark.bases ≡ length task.pie.sizes

-- a cell stands at this place, and the field memory doesn't have it when it is relocated
pub record IsMissing (bases : List ℕ) (cells : List MemoryCell) (field : ℕ → Option ℕ) (segment offset : ℕ) : Type 0 where
  pub value : Datum
  pub stands : value_at cells segment offset ≡ Some value
  pub missing : field (relocated bases (place segment offset)) ≢ Some (relocated bases value)

-- by segment, and then by offset
abbrev pub IsBefore : ℕ → ℕ → ℕ → ℕ → Type 0
IsBefore segment offset t q = (segment < t) ⊎ ((segment ≡ t) × (offset < q))

-- of the places whose cell is missing, this is the first
pub record IsFirstMissing (bases : List ℕ) (cells : List MemoryCell) (field : ℕ → Option ℕ) (segment offset : ℕ) : Type 0 where
  pub here : IsMissing bases cells field segment offset
  pub none_before : (t q : ℕ) → IsBefore t q segment offset → ¬ IsMissing bases cells field t q

-- the task of this number misses its first cell at this place
pub record TaskMisses (cert : CertRecord) (tasks : List CheckedRecord) (i segment offset : ℕ) : Type 0 where
  pub mark : MarkRecord
  pub task : CheckedRecord
  pub is_placed : IsPlacedTask cert tasks i mark task
  pub misses : IsFirstMissing mark.bases task.pie.cells (cell_at cert.cells) segment offset

-- The place that shows why a task doesn't stand: the first that misses its cell, or else that of the return address.
abbrev pub ShowsTask : CertRecord → List CheckedRecord → ℕ → ℕ → ℕ → Type 0
ShowsTask cert tasks i segment offset =
    TaskMisses cert tasks i segment offset
    ⊎ ((segment ≡ return_pc_segment) × ((offset ≡ 0) × ((t q : ℕ) → ¬ TaskMisses cert tasks i t q)))
