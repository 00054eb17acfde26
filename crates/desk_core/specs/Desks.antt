-- The desk as plain data, and the words that are said of it. What an event does to it stands in Next.antt.
use Rattle.std.specs.Prelude.{ℕ, zero, suc, ◌+◌, ◌==◌, ◌&&◌, Bool, true, false, List, [], ◌∷◌, map, filter, find, position, drop, take, flat_map, sum_by, slice_get, Option, nat_le, nat_lt}
use Rattle.std.specs.Option.{option_map_or}
use Rattle.cairo_model.specs.Pie.Acceptance.{FactRecord}
use Rattle.cairo_model.specs.Pie.Records.{PieRecord}
use Rattle.cairo_model.specs.Pie.Shapes.{shape_of}
use Rattle.cairo_model.specs.declared.shape.Shape.{Shape}
use Rattle.cairo_model.specs.Pie.Facts.{fact_of}
use Rattle.desk_core.specs.declared.phase.Phase.{Phase}
use Rattle.desk_core.specs.declared.phase.Phase.TheVariants as phase
use Rattle.desk_core.specs.declared.phase.JobPhase.{JobPhase}
use Rattle.desk_core.specs.declared.phase.JobPhase.TheVariants as at

-- a job: whose it is, its number among that client's jobs, and its PIE
pub record PlainJob : Type 0 where
  pub client : ℕ
  pub number : ℕ
  pub pie : PieRecord

-- a batch: the index of its first job, how many follow one another, and where it stands
pub record PlainBatch : Type 0 where
  pub first : ℕ
  pub count : ℕ
  pub phase : Phase

-- the desk: jobs by admission, batches by sealing, and the numbers of the registered batches by registration
pub record PlainDesk : Type 0 where
  pub clients : ℕ
  pub jobs : List PlainJob
  pub batches : List PlainBatch
  pub registered : List ℕ
  pub closed : Bool

abbrev pub empty_desk : ℕ → PlainDesk
empty_desk clients = record { clients = clients; jobs = []; batches = []; registered = []; closed = false }

-- the jobs of a client, and their shapes
abbrev pub jobs_of : ℕ → List PlainJob → List PlainJob
jobs_of client jobs = filter (λ j. j.client == client) jobs

abbrev pub shapes_of : ℕ → List PlainJob → List Shape
shapes_of client jobs = map (λ j. shape_of j.pie) (jobs_of client jobs)

-- how many jobs are in batches: the batches follow one another from the first job on
abbrev pub batched : PlainDesk → ℕ
batched d = sum_by (λ b. b.count) d.batches

-- the jobs that are in no batch
abbrev pub waiting_jobs : PlainDesk → List PlainJob
waiting_jobs d = drop (batched d) d.jobs

-- the jobs of a batch
abbrev pub jobs_in : List PlainJob → PlainBatch → List PlainJob
jobs_in jobs b = take b.count (drop b.first jobs)

-- the phase of a batch's number
abbrev pub phase_at : PlainDesk → ℕ → Phase
phase_at d b = option_map_or (λ x. x.phase) (slice_get d.batches b) phase.NoBatch

abbrev pub is_sealed : Phase → Bool
is_sealed phase.Sealed = true
is_sealed (phase.Taken pass) = false
is_sealed phase.Registered = false
is_sealed phase.NoBatch = false

abbrev pub is_taken_by : ℕ → Phase → Bool
is_taken_by pass phase.Sealed = false
is_taken_by pass (phase.Taken by) = by == pass
is_taken_by pass phase.Registered = false
is_taken_by pass phase.NoBatch = false

-- the least number of a sealed batch
abbrev pub first_sealed : PlainDesk → Option ℕ
first_sealed d = position (λ b. is_sealed b.phase) d.batches

abbrev pub with_phase : Phase → PlainBatch → PlainBatch
with_phase p b = record b { phase = p }

-- the batch of this number gets another phase
abbrev pub set_phase : List PlainBatch → ℕ → Phase → List PlainBatch
set_phase [] b p = []
set_phase (x ∷ xs) zero p = with_phase p x ∷ xs
set_phase (x ∷ xs) (suc b) p = x ∷ set_phase xs b p

-- the jobs of the batch of this number, none where there is no such batch
abbrev pub jobs_at : PlainDesk → ℕ → List PlainJob
jobs_at d b = option_map_or (jobs_in d.jobs) (slice_get d.batches b) []

-- the jobs of the registered batches, in order of registration, and their facts
abbrev pub registered_jobs : PlainDesk → List PlainJob
registered_jobs d = flat_map (jobs_at d) d.registered

abbrev pub shown_facts : PlainDesk → List FactRecord
shown_facts d = map (λ j. fact_of j.pie) (registered_jobs d)

-- whether the job of this index is in the batch
abbrev pub has_job : ℕ → PlainBatch → Bool
has_job i b = nat_le b.first i && nat_lt i (b.first + b.count)

-- what is told of a job in a batch of this phase
abbrev pub told_of : Phase → JobPhase
told_of phase.Sealed = at.Sealed
told_of (phase.Taken pass) = at.Taken
told_of phase.Registered = at.Registered
told_of phase.NoBatch = at.Waiting

abbrev pub phase_of_job : PlainDesk → ℕ → JobPhase
phase_of_job d i = option_map_or (λ b. told_of b.phase) (find (has_job i) d.batches) at.Waiting

-- where the job of this client and number stands
abbrev pub job_phase : PlainDesk → ℕ → ℕ → JobPhase
job_phase d client number = option_map_or (phase_of_job d) (position (λ j. (j.client == client) && (j.number == number)) d.jobs) at.Unknown
