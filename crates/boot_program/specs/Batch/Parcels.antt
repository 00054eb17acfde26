-- The tasks of a batch.
use Rattle.std.specs.Prelude.{ℕ, ◌≤◌, List, length, map, sum}
use Rattle.cairo_model.specs.Pie.Acceptance.{CheckedRecord}
use Rattle.cairo_model.specs.Certificate.Records.{CertRecord}
use Rattle.boot_program.specs.Batch.Limits.{most_batch_tasks, most_batch_steps, most_batch_cells}

-- the steps of all isolated runs
abbrev pub steps_of_all : List CheckedRecord → ℕ
steps_of_all tasks = sum (map (λ t. t.pie.steps) tasks)

-- the cells that the segments of all have room for
abbrev pub cells_of_all : List CheckedRecord → ℕ
cells_of_all tasks = sum (map (λ t. sum t.pie.sizes) tasks)

-- one task at least, and all together within the limits of a batch
pub record WithinBatch (tasks : List CheckedRecord) : Type 0 where
  pub some : 1 ≤ length tasks
  pub few : length tasks ≤ most_batch_tasks
  pub few_steps : steps_of_all tasks ≤ most_batch_steps
  pub few_cells : cells_of_all tasks ≤ most_batch_cells

-- what a `Parcel` is seen as
pub record ParcelRecord : Type 0 where
  pub batch : ℕ
  pub tasks : List CheckedRecord

-- what a `Certified` is seen as
pub record CertifiedRecord : Type 0 where
  pub cert : CertRecord
  pub parcel : ParcelRecord
