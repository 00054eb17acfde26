-- What the steps of a registration compute.
use Rattle.std.specs.Prelude.{ℕ, ◌≡◌, ◌<◌, Bool, true, false, List, [], map, take, drop, Option, Some, None, slice_get, slice_set}
use Rattle.std.specs.Option.{option_map_or}
use Rattle.cairo_model.specs.Certificate.Records.{CertRecord}
use Rattle.cairo_model.specs.Pie.Acceptance.{CheckedRecord, FactRecord}
use Rattle.boot_program.specs.Batch.Parcels.{CertifiedRecord}
use Rattle.desk_core.specs.Registrations.{SamePieAt, pies_in}
use Rattle.desk_core.specs.declared.batch.Batch.{Batch}
use Rattle.desk_core.specs.declared.job.Job.{Job}
use Rattle.desk_core.specs.declared.phase.Phase.{Phase}
use Rattle.desk_core.specs.declared.phase.Phase.TheVariants as phase
use Rattle.desk_core.specs.declared.register_end.RegisterEnd.{RegisterEnd}
use Rattle.desk_core.specs.declared.register_end.RegisterEnd.TheVariants as end
use Rattle.desk_core.specs.declared.reply.Reply.{Reply}
use Rattle.desk_core.specs.declared.reply.Reply.TheVariants as reply

abbrev pub checked_in : List Job → List CheckedRecord
checked_in jobs = map (λ j. j.checked) jobs

abbrev pub SameTaskAt : List CheckedRecord → List CheckedRecord → ℕ → Type 0
SameTaskAt given kept i = slice_get given i ≡ slice_get kept i

-- none where the tasks are the same, else the least index at which the PIEs differ
abbrev pub IsFound : List CheckedRecord → List CheckedRecord → Option ℕ → Type 0
IsFound given kept None = given ≡ kept
IsFound given kept (Some i) = (¬ SamePieAt (pies_in given) (pies_in kept) i) × ((k : ℕ) → k < i → SameTaskAt given kept k)

-- the jobs of a batch, and of the batch of this number, none where there is no such batch
abbrev pub jobs_within : List Job → Batch → List Job
jobs_within jobs b = take b.count (drop b.first jobs)

abbrev pub jobs_numbered : List Job → List Batch → ℕ → List Job
jobs_numbered jobs batches b = option_map_or (jobs_within jobs) (slice_get batches b) []

abbrev pub facts_kept : List Job → List FactRecord
facts_kept jobs = map (λ j. j.checked.fact) jobs

-- a batch is registered where the pass holds it and the parcel doesn't differ
abbrev pub is_welcome : Option ℕ → Option ℕ → Bool
is_welcome None differs = false
is_welcome (Some b) None = true
is_welcome (Some b) (Some i) = false

abbrev pub registering_reply : Option ℕ → Phase → Option ℕ → Reply
registering_reply None p differs = reply.NotTaken p
registering_reply (Some b) p None = reply.Registered
registering_reply (Some b) p (Some i) = reply.Stranger i

abbrev pub refused_end : Option ℕ → Phase → Option ℕ → CertifiedRecord → RegisterEnd
refused_end None p differs certified = end.NotTaken p certified
refused_end (Some b) p None certified = end.Done
refused_end (Some b) p (Some i) certified = end.Stranger i certified

-- the batch of this number is registered, with its certificate
abbrev pub certified_at : List Batch → ℕ → CertRecord → List Batch
certified_at batches b cert = option_map_or (λ x. slice_set batches b (record x { phase = phase.Registered; cert = Some cert })) (slice_get batches b) batches
