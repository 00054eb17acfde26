-- What the steps compute that tell where a job stands.
use Rattle.std.specs.Prelude.{ℕ, ◌+◌, ◌<◌, Bool, List, length, map, find, nat_le, nat_lt, slice_get, slice_set, Option, Some, None, if◌then◌else◌}
use Rattle.std.specs.Option.{option_map_or}
use Rattle.desk_core.specs.DeskRecords.{plain_batch}
use Rattle.desk_core.specs.Desks.{has_job, told_of}
use Rattle.desk_core.specs.Kept.{table_place}
use Rattle.desk_core.specs.Limits.{most_client_pies}
use Rattle.desk_core.specs.declared.batch.Batch.{Batch}
use Rattle.desk_core.specs.declared.event.OfferNote.{OfferNote}
use Rattle.desk_core.specs.declared.event.OfferNote.TheVariants as note
use Rattle.desk_core.specs.declared.phase.JobPhase.{JobPhase}
use Rattle.desk_core.specs.declared.phase.JobPhase.TheVariants as at
use Rattle.desk_core.specs.declared.reply.Reply.{Reply}
use Rattle.desk_core.specs.declared.reply.Reply.TheVariants as reply

-- the index that a table has for a client's job of this number
abbrev pub index_in : List (Option ℕ) → ℕ → ℕ → Option ℕ
index_in places client number = if nat_le most_client_pies number then None else option_map_or (λ p. p) (slice_get places (table_place client number)) None

-- where the job of this index stands
abbrev pub told_in : List Batch → ℕ → JobPhase
told_in batches i = option_map_or (λ b. told_of b.phase) (find (has_job i) (map plain_batch batches)) at.Waiting

-- where it stands, if one was found
abbrev pub phase_by : List Batch → Option ℕ → JobPhase
phase_by batches found = option_map_or (told_in batches) found at.Unknown

-- whether the batch begins at this index or before it
abbrev pub begins_by : ℕ → Batch → Bool
begins_by i b = nat_le b.first i

-- where a job stands that doesn't lie before the batch
abbrev pub told_inside : Batch → ℕ → JobPhase
told_inside b i = if nat_lt i (b.first + b.count) then told_of b.phase else at.Waiting

-- the table after an offer with this reply, where so many jobs were there before
abbrev pub places_after : List (Option ℕ) → ℕ → OfferNote → Reply → ℕ → List (Option ℕ)
places_after places client (note.Accepted shape fact) (reply.Admitted number) count = slice_set places (table_place client number) (Some count)
places_after places client n r count = places

-- the table has a place for the job that the reply admits
abbrev pub HasPlace : List (Option ℕ) → ℕ → OfferNote → Reply → Type 0
HasPlace places client (note.Accepted shape fact) (reply.Admitted number) = table_place client number < length places
HasPlace places client n r = Unit {0}
