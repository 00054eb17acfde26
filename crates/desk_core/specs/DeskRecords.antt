-- A desk as contracts see it, and what is read off it: the plain desk, and the journal of full entries.
use Rattle.std.specs.Prelude.{ℕ, ◌+◌, Bool, true, false, List, [], ◌∷◌, map, take, drop, slice_get, filter_map, Option, Some, None, if◌then◌else◌}
use Rattle.std.specs.Option.{option_map_or}
use Rattle.cairo_model.specs.Pie.Acceptance.{CheckedRecord, FactRecord}
use Rattle.cairo_model.specs.Pie.Records.{PieRecord}
use Rattle.desk_core.specs.Desks.{PlainBatch, PlainDesk, PlainJob}
use Rattle.desk_core.specs.Quotas.{is_admitted}
use Rattle.desk_core.specs.declared.entry.Entry.{Entry}
use Rattle.desk_core.specs.declared.entry.FullEntry.{FullEntry}
use Rattle.desk_core.specs.declared.event.Event.{Event}
use Rattle.desk_core.specs.declared.event.Event.TheVariants as event
use Rattle.desk_core.specs.declared.batch.Batch.{Batch}
use Rattle.desk_core.specs.declared.job.Job.{Job}
use Rattle.desk_core.specs.declared.reply.Reply.{Reply}
use Rattle.desk_core.specs.declared.reply.Reply.TheVariants as reply

-- what a `Desk` is seen as
pub record DeskRecord : Type 0 where
  pub clients : ℕ
  pub jobs : List Job
  pub batches : List Batch
  pub registry : List FactRecord
  pub entries : List Entry
  pub closed : Bool
  pub turns : ℕ

-- ---- the plain desk

abbrev pub plain_job : Job → PlainJob
plain_job j = record { client = j.client; number = j.number; pie = j.checked.pie }

abbrev pub plain_batch : Batch → PlainBatch
plain_batch b = record { first = b.first; count = b.count; phase = b.phase }

-- the batch that an event with this reply registers, if it does
abbrev pub registers_at : Event → Reply → Option ℕ
registers_at (event.Register b None) reply.Registered = Some b
registers_at e r = None

-- the batches that were registered, in order
abbrev pub registered_in : List Entry → List ℕ
registered_in entries = filter_map (λ e. registers_at e.event e.reply) entries

abbrev pub plain_of : DeskRecord → PlainDesk
plain_of d = record { clients = d.clients; jobs = map plain_job d.jobs; batches = map plain_batch d.batches; registered = registered_in d.entries; closed = d.closed }

-- ---- the journal

-- the first of them where one is taken, and those that are left
abbrev pub pie_taken : Bool → List PieRecord → Option PieRecord
pie_taken true [] = None
pie_taken true (p ∷ pies) = Some p
pie_taken false pies = None

abbrev pub pies_left : Bool → List PieRecord → List PieRecord
pies_left true [] = []
pies_left true (p ∷ pies) = pies
pies_left false pies = pies

-- each entry by which a PIE was admitted takes the next of these PIEs
abbrev pub full_entries : List Entry → List PieRecord → List FullEntry
full_entries [] pies = []
full_entries (e ∷ es) pies = record { entry = e; pie = pie_taken (is_admitted e.reply) pies } ∷ full_entries es (pies_left (is_admitted e.reply) pies)

-- how many entries admitted a PIE
abbrev pub admitted_in : List Entry → ℕ
admitted_in [] = 0
admitted_in (e ∷ es) = (if is_admitted e.reply then 1 else 0) + admitted_in es

abbrev pub pies_of : List Job → List PieRecord
pies_of jobs = map (λ j. j.checked.pie) jobs

-- the entries, each with the PIE of the job that it made
abbrev pub journal_of : DeskRecord → List FullEntry
journal_of d = full_entries d.entries (pies_of d.jobs)

-- ---- batches

-- the tasks of a batch, in order
abbrev pub tasks_in : List Job → Batch → List CheckedRecord
tasks_in jobs b = map (λ j. j.checked) (take b.count (drop b.first jobs))

-- those of the batch of this number, none where there is no such batch
abbrev pub tasks_at : DeskRecord → ℕ → List CheckedRecord
tasks_at d b = option_map_or (tasks_in d.jobs) (slice_get d.batches b) []
