-- What the steps of a call compute.
use Rattle.std.specs.Prelude.{ℕ, ◌+◌, ◌*◌, ◌≤◌, ◌==◌, Bool, List, [], ◌∷◌, ◌++◌, length, Option, Some, None, nat_lt, slice_get, slice_set, if◌then◌else◌}
use Rattle.std.specs.Option.{option_map_or}
use Rattle.cairo_model.specs.Pie.Acceptance.{AcceptedWith}
use Rattle.boot_program.specs.Batch.Parcels.{ParcelRecord, WithinBatch}
use Rattle.desk_core.specs.DeskRecords.{tasks_in}
use Rattle.desk_core.specs.Desks.{is_taken_by}
use Rattle.desk_core.specs.Limits.{most_client_cells, most_client_pies, most_client_steps, most_clients}
use Rattle.desk_core.specs.Quotas.{reply_by_totals}
use Rattle.desk_core.specs.declared.event.OfferNote.{OfferNote}
use Rattle.desk_core.specs.declared.event.OfferNote.TheVariants as note
use Rattle.desk_core.specs.declared.batch.Batch.{Batch}
use Rattle.desk_core.specs.declared.job.Job.{Job}
use Rattle.desk_core.specs.declared.offer.Offer.{Offer}
use Rattle.desk_core.specs.declared.offer.Offer.TheVariants as offer
use Rattle.desk_core.specs.declared.phase.Phase.{Phase}
use Rattle.desk_core.specs.declared.phase.Phase.TheVariants as phase
use Rattle.desk_core.specs.declared.reply.Reply.{Reply}
use Rattle.desk_core.specs.declared.reply.Reply.TheVariants as reply
use Rattle.desk_core.specs.declared.usage.Usage.{Usage}

-- the most jobs of a desk
abbrev pub most_jobs : ℕ
most_jobs = most_clients * most_client_pies

-- ---- submit

-- a usage that is within a client's limits
pub record IsSmallUsage (usage : Usage) : Type 0 where
  pub few : usage.pies ≤ most_client_pies
  pub short : usage.steps ≤ most_client_steps
  pub small : usage.cells ≤ most_client_cells

-- a PIE that is offered is accepted alone
abbrev pub AcceptedOffer : Offer → Type 0
AcceptedOffer (offer.Accepted checked) = AcceptedWith checked.pie checked.fact checked.states
AcceptedOffer (offer.Refused r) = Unit {0}

-- the reply to an offer of a client with this usage
abbrev pub reply_by_usage : Usage → Bool → OfferNote → Reply
reply_by_usage usage closed (note.Refused r) = reply.Refused r
reply_by_usage usage closed (note.Accepted shape fact) =
    if closed then reply.Closed else reply_by_totals usage.pies (usage.pies + 1) (usage.steps + shape.steps) (usage.cells + shape.size)

-- the jobs and the client's usage after an offer with this reply
abbrev pub admitted_jobs : List Job → ℕ → Offer → Reply → List Job
admitted_jobs jobs client (offer.Accepted checked) (reply.Admitted number) = jobs ++ record { client = client; number = number; checked = checked } ∷ []
admitted_jobs jobs client o r = jobs

abbrev pub used_after : Usage → OfferNote → Reply → Usage
used_after usage (note.Accepted shape fact) (reply.Admitted number) = record { pies = usage.pies + 1; steps = usage.steps + shape.steps; cells = usage.cells + shape.size }
used_after usage n r = usage

-- ---- seal

abbrev pub sealed_with : ℕ → Bool → ℕ → Reply
sealed_with count closed number = if count == 0 then reply.NothingWaiting closed else reply.SealedBatch number

abbrev pub sealed_batches : List Batch → ℕ → ℕ → List Batch
sealed_batches batches first count = if count == 0 then batches else batches ++ record { first = first; count = count; phase = phase.Sealed; cert = None } ∷ []

-- ---- take

-- the number of the next sealed batch, by how many stand before it
abbrev pub sealed_number : ℕ → ℕ → Option ℕ
sealed_number next count = if nat_lt next count then Some next else None

abbrev pub batches_moved : List Batch → Option ℕ → Phase → List Batch
batches_moved batches None p = batches
batches_moved batches (Some b) p = option_map_or (λ x. slice_set batches b (record x { phase = p })) (slice_get batches b) batches

abbrev pub taken_by : Option ℕ → Reply
taken_by None = reply.NothingSealed
taken_by (Some b) = reply.TakenBatch b

-- the parcel of the batch of this number, where a number was found
abbrev pub parcel_at : List Job → List Batch → Option ℕ → Option ParcelRecord
parcel_at jobs batches None = None
parcel_at jobs batches (Some b) = Some (record { batch = b; tasks = option_map_or (tasks_in jobs) (slice_get batches b) [] })

-- a batch lies inside the jobs, and its tasks are within the limits of a batch
pub record CanGoOut (jobs : List Job) (b : Batch) : Type 0 where
  pub inside : b.first + b.count ≤ length jobs
  pub fits : WithinBatch (tasks_in jobs b)

-- ---- ask

abbrev pub yes_or_no : Bool → Reply
yes_or_no held = if held then reply.Yes else reply.No

-- ---- give_back

abbrev pub phase_of_batch : List Batch → ℕ → Phase
phase_of_batch batches b = option_map_or (λ x. x.phase) (slice_get batches b) phase.NoBatch

-- the batch's number, where it is taken by the pass
abbrev pub held_number : ℕ → ℕ → Phase → Option ℕ
held_number pass b p = if is_taken_by pass p then Some b else None

abbrev pub given_back : Option ℕ → Phase → Reply
given_back None p = reply.NotTaken p
given_back (Some b) p = reply.Returned

-- how many batches stand before the first sealed one, where this one is sealed again
abbrev pub earlier : ℕ → Option ℕ → ℕ
earlier next None = next
earlier next (Some b) = if nat_lt b next then b else next
