-- What a desk keeps beside what is seen of it, so that no call counts anew over all jobs.
use Rattle.std.specs.Prelude.{ℕ, ◌≡◌, ◌<◌, ◌+◌, ◌*◌, ◌==◌, ◌&&◌, List, length, map, not, position, slice_get, sum_by, Option, Some}
use Rattle.std.specs.List.{prefix_len}
use Rattle.cairo_model.specs.declared.shape.Shape.{Shape}
use Rattle.batch_plan.specs.Cuts.{cells_together, steps_together}
use Rattle.desk_core.specs.DeskRecords.{DeskRecord, plain_job}
use Rattle.desk_core.specs.Desks.{PlainJob, is_sealed, shapes_of}
use Rattle.desk_core.specs.GoodDesks.{IsGoodDesk}
use Rattle.desk_core.specs.Limits.{most_client_pies}
use Rattle.desk_core.specs.declared.batch.Batch.{Batch}
use Rattle.desk_core.specs.declared.job.Job.{Job}
use Rattle.desk_core.specs.declared.usage.Usage.{Usage}

-- what PIEs of these shapes take of their client's limits
abbrev pub usage_of : List Shape → Usage
usage_of shapes = record { pies = length shapes; steps = steps_together shapes; cells = cells_together shapes }

-- how many jobs are in batches
abbrev pub jobs_batched : List Batch → ℕ
jobs_batched batches = sum_by (λ b. b.count) batches

-- how many batches stand before the first sealed one, all where none is sealed
abbrev pub before_sealed : List Batch → ℕ
before_sealed batches = prefix_len (λ b. not (is_sealed b.phase)) batches

-- each client's usage is that of its own jobs
abbrev pub AreUsages : DeskRecord → List Usage → Type 0
AreUsages d usages = (c : ℕ) → c < d.clients → slice_get usages c ≡ Some (usage_of (shapes_of c (map plain_job d.jobs)))

-- the index of the client's job of this number, where there is one
abbrev pub job_index : ℕ → ℕ → List PlainJob → Option ℕ
job_index client number jobs = position (λ j. (j.client == client) && (j.number == number)) jobs

-- where a table has the index of a client's job of this number
abbrev pub table_place : ℕ → ℕ → ℕ
table_place client number = client * most_client_pies + number

-- the table has the index of each client's job of each number that a client may have, where there is such a job
pub record ArePlaces (clients : ℕ) (jobs : List Job) (places : List (Option ℕ)) : Type 0 where
  pub many : length places ≡ clients * most_client_pies
  pub are : (c n : ℕ) → c < clients → n < most_client_pies → slice_get places (table_place c n) ≡ Some (job_index c n (map plain_job jobs))

pub record IsKept (d : DeskRecord) (usages : List Usage) (places : List (Option ℕ)) (batched next : ℕ) : Type 0 where
  pub good : IsGoodDesk d
  pub are_usages : AreUsages d usages
  pub are_places : ArePlaces d.clients d.jobs places
  pub is_batched : batched ≡ jobs_batched d.batches
  pub is_next : next ≡ before_sealed d.batches
