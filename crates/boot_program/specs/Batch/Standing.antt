-- Each task's whole isolated run stands in the certificate of its batch.
use Rattle.std.specs.Prelude.{ℕ, ◌≡◌, ◌+◌, List, length, map, take, drop, slice_get, Some}
use Rattle.cairo_model.specs.Machine.FieldMemories.{cell_at}
use Rattle.cairo_model.specs.Pie.Records.{memory_of}
use Rattle.cairo_model.specs.Pie.Layouts.{relocated_state}
use Rattle.cairo_model.specs.Pie.Acceptance.{CheckedRecord}
use Rattle.cairo_model.specs.Certificate.Records.{CertRecord, MarkRecord}
use Rattle.cairo_model.specs.Pie.Relocation.{HasRelocated}

-- the mark and the task of this number
abbrev pub IsMarkOf : CertRecord → ℕ → MarkRecord → Type 0
IsMarkOf cert i mark = slice_get cert.tasks i ≡ Some mark

abbrev pub IsTask : List CheckedRecord → ℕ → CheckedRecord → Type 0
IsTask tasks i task = slice_get tasks i ≡ Some task

-- The task's mark has a base for each segment; by these bases each cell of the task is among the certificate's cells, and the
-- states from the mark's row on are those of the isolated run.
pub record StandsIn (cert : CertRecord) (i : ℕ) (task : CheckedRecord) : Type 0 where
  pub mark : MarkRecord
  pub is_mark : IsMarkOf cert i mark
  pub one_base_each : length mark.bases ≡ length task.pie.sizes
  pub has_cells : HasRelocated mark.bases (memory_of task.pie.cells) (cell_at cert.cells)
  pub has_states : take (task.pie.steps + 1) (drop mark.row cert.states) ≡ map (relocated_state mark.bases) task.states

abbrev pub AllStandIn : CertRecord → List CheckedRecord → Type 0
AllStandIn cert tasks = (i : ℕ) (task : CheckedRecord) → IsTask tasks i task → StandsIn cert i task
