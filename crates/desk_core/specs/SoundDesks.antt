-- What the numbers, batches and limits of every desk keep, told over plain data.
use Rattle.std.specs.Prelude.{◌≡◌, ◌≢◌, ◌↔◌, ℕ, ◌+◌, ◌≤◌, ◌<◌, List, [], ◌∷◌, All, Contains, length, map}
use Rattle.std.specs.List.{range_with_len}
use Rattle.cairo_model.specs.Pie.Shapes.{shape_of}
use Rattle.cairo_model.specs.declared.shape.Shape.{Shape}
use Rattle.batch_plan.specs.Cuts.{FitOneBatch, IsPieShape, cells_together, steps_together}
use Rattle.desk_core.specs.Desks.{PlainDesk, PlainJob, PlainBatch, batched, jobs_in, jobs_of, phase_at, shapes_of}
use Rattle.desk_core.specs.Limits.{most_client_cells, most_client_pies, most_client_steps}
use Rattle.desk_core.specs.Journals.{Follows, move_of, after_move}
use Rattle.desk_core.specs.declared.entry.FullEntry.{FullEntry}
use Rattle.desk_core.specs.declared.phase.Phase.TheVariants as phase

-- what one client had admitted is within its limits
pub record KeepsLimits (shapes : List Shape) : Type 0 where
  pub few : length shapes ≤ most_client_pies
  pub short : steps_together shapes ≤ most_client_steps
  pub small : cells_together shapes ≤ most_client_cells

-- each batch begins where the one before it ends
abbrev pub AreNeighbours : ℕ → List PlainBatch → Type 0
AreNeighbours first [] = Unit {0}
AreNeighbours first (b ∷ bs) = (b.first ≡ first) × AreNeighbours (first + b.count) bs

abbrev pub shapes_in : List PlainJob → List Shape
shapes_in jobs = map (λ j. shape_of j.pie) jobs

-- a stretch of jobs that are there, at least one, within the limits, which has a phase
pub record IsBatchOf (jobs : List PlainJob) (b : PlainBatch) : Type 0 where
  pub some : 1 ≤ b.count
  pub within : b.first + b.count ≤ length jobs
  pub fits : FitOneBatch (shapes_in (jobs_in jobs b))
  pub stands : b.phase ≢ phase.NoBatch

-- The jobs of each client are numbered from 0 and within its limits; the batches are neighbouring stretches of the jobs from the
-- first on; and those that were registered are in that phase.
pub record IsSound (d : PlainDesk) : Type 0 where
  pub clients : All (λ j. j.client < d.clients) d.jobs
  pub numbered : (c : ℕ) → map (λ j. j.number) (jobs_of c d.jobs) ≡ range_with_len 0 (length (jobs_of c d.jobs))
  pub limited : (c : ℕ) → KeepsLimits (shapes_of c d.jobs)
  pub neighbours : AreNeighbours 0 d.batches
  pub inside : batched d ≤ length d.jobs
  pub batches : All (IsBatchOf d.jobs) d.batches
  pub registered : (b : ℕ) → Contains d.registered b ↔ (phase_at d b ≡ phase.Registered)

-- each PIE is within the limits of one
abbrev pub AreSmall : List PlainJob → Type 0
AreSmall jobs = All (λ j. IsPieShape (shape_of j.pie)) jobs

-- what Next gives keeps a desk sound
abbrev pub SoundIsKept : Type 0
SoundIsKept = (d : PlainDesk) (e : FullEntry) → IsSound d → AreSmall d.jobs → Follows d e → IsSound (after_move d (move_of e))
