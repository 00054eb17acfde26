-- Which of the PIEs that wait make the next batch: as many from the first on as the limits of a batch allow.
use Rattle.std.specs.Prelude.{ℕ, ◌≤◌, List, length, map, sum, take}
use Rattle.cairo_model.specs.Limits.{most_cells, most_steps}
use Rattle.cairo_model.specs.declared.shape.Shape.{Shape}
use Rattle.boot_program.specs.Batch.Limits.{most_batch_cells, most_batch_steps, most_batch_tasks}

-- so many tasks, with so many steps and cells together, are within the limits of a batch
pub record AreWithinBatch (tasks steps cells : ℕ) : Type 0 where
  pub few : tasks ≤ most_batch_tasks
  pub few_steps : steps ≤ most_batch_steps
  pub few_cells : cells ≤ most_batch_cells

abbrev pub steps_together : List Shape → ℕ
steps_together shapes = sum (map (λ s. s.steps) shapes)

abbrev pub cells_together : List Shape → ℕ
cells_together shapes = sum (map (λ s. s.size) shapes)

-- all of these fit into one batch
abbrev pub FitOneBatch : List Shape → Type 0
FitOneBatch shapes = AreWithinBatch (length shapes) (steps_together shapes) (cells_together shapes)

-- The first so many fit into one batch, and no more of them do.
pub record IsLongestCut (waiting : List Shape) (count : ℕ) : Type 0 where
  pub there : count ≤ length waiting
  pub fit : FitOneBatch (take count waiting)
  pub longest : (more : ℕ) → more ≤ length waiting → FitOneBatch (take more waiting) → more ≤ count

-- a run within the limits of a PIE
pub record IsPieShape (shape : Shape) : Type 0 where
  pub few_steps : shape.steps ≤ most_steps
  pub few_cells : shape.size ≤ most_cells
