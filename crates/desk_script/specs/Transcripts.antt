-- The text of what happened at a desk (docs/SERVICE.md).
use Rattle.std.specs.Prelude.{◌≡◌, ℕ, ◌+◌, List, [], ◌∷◌, ◌++◌, take, drop, codes, decimal, if◌then◌else◌}
use Rattle.std.specs.List.{flat_map, sum_by}
use Rattle.std.specs.List.Sorted.{IsPermutation, IsSorted}
use Rattle.cairo_model.specs.Pie.Acceptance.{FactRecord}
use Rattle.cairo_model.specs.Pie.FactOrder.{fact_order}
use Rattle.cairo_model.specs.Texts.Facts.{fact_text}
use Rattle.cairo_model.specs.Texts.Numbers.{numbers_text}
use Rattle.cairo_model.specs.Texts.Refusals.{refusal_text}
use Rattle.desk_core.specs.DeskRecords.{DeskRecord}
use Rattle.desk_core.specs.Quotas.{is_admitted}
use Rattle.desk_core.specs.declared.batch.Batch.{Batch}
use Rattle.desk_core.specs.declared.entry.Entry.{Entry}
use Rattle.desk_core.specs.declared.event.Event.{Event}
use Rattle.desk_core.specs.declared.event.Event.TheVariants as event
use Rattle.desk_core.specs.declared.event.OfferNote.{OfferNote}
use Rattle.desk_core.specs.declared.event.OfferNote.TheVariants as note
use Rattle.desk_core.specs.declared.job.Job.{Job}
use Rattle.desk_core.specs.declared.phase.JobPhase.{JobPhase}
use Rattle.desk_core.specs.declared.phase.JobPhase.TheVariants as at
use Rattle.desk_core.specs.declared.reply.QuotaKind.{QuotaKind}
use Rattle.desk_core.specs.declared.reply.QuotaKind.TheVariants.{Pies, Steps, Sizes}
use Rattle.desk_core.specs.declared.reply.Reply.{Reply}
use Rattle.desk_core.specs.declared.reply.Reply.TheVariants as reply

-- ---- replies

abbrev pub quota_number : QuotaKind → ℕ
quota_number Pies = 1
quota_number Steps = 2
quota_number Sizes = 3

abbrev pub phase_words : JobPhase → List ℕ
phase_words at.Waiting = codes " waiting"
phase_words at.Sealed = codes " sealed"
phase_words at.Taken = codes " taken"
phase_words at.Registered = codes " registered"
phase_words at.Unknown = codes " unknown"

-- the words for a reply to a client; of batches nothing is told here
abbrev pub reply_words : Reply → List ℕ
reply_words (reply.Admitted number) = codes " admitted" ++ numbers_text (number ∷ [])
reply_words (reply.Refused refusal) = codes " refused" ++ refusal_text refusal
reply_words reply.Closed = codes " closed"
reply_words (reply.Quota kind count limit) = codes " quota" ++ numbers_text (quota_number kind ∷ count ∷ limit ∷ [])
reply_words (reply.SealedBatch b) = []
reply_words (reply.NothingWaiting closed) = []
reply_words (reply.TakenBatch b) = []
reply_words reply.NothingSealed = []
reply_words reply.Registered = []
reply_words (reply.NotTaken phase) = []
reply_words (reply.Stranger index) = []
reply_words reply.Returned = []
reply_words reply.Yes = codes " yes"
reply_words reply.No = codes " no"
reply_words (reply.IsAt phase) = phase_words phase

-- what an admitted offer shows
abbrev pub note_words : OfferNote → List ℕ
note_words (note.Accepted shape fact) = codes " program " ++ fact_text fact
note_words (note.Refused refusal) = []

abbrev pub shown_words : OfferNote → Reply → List ℕ
shown_words n r = if is_admitted r then note_words n else []

-- ---- lines

-- the line of an event of a client; other events have none
abbrev pub event_text : Event → Reply → List ℕ
event_text (event.Submit client n) r = codes "client" ++ numbers_text (client ∷ []) ++ codes " submit" ++ reply_words r ++ shown_words n r ++ codes "\n"
event_text event.Seal r = []
event_text event.Take r = []
event_text (event.Register b differs) r = []
event_text (event.GiveBack b) r = []
event_text (event.Ask client fact) r = codes "client" ++ numbers_text (client ∷ []) ++ codes " ask" ++ reply_words r ++ codes "\n"
event_text (event.Status client number) r = codes "client" ++ numbers_text (client ∷ []) ++ codes " status" ++ numbers_text (number ∷ []) ++ reply_words r ++ codes "\n"
event_text event.Close r = []

abbrev pub entry_text : Entry → List ℕ
entry_text e = event_text e.event e.reply

-- the jobs of a batch, in order
abbrev pub jobs_of_batch : List Job → Batch → List Job
jobs_of_batch jobs b = take b.count (drop b.first jobs)

abbrev pub steps_of_jobs : List Job → ℕ
steps_of_jobs jobs = sum_by (λ j. j.checked.pie.steps) jobs

-- a job by its client and its number
abbrev pub job_text : Job → List ℕ
job_text j = numbers_text (j.client ∷ []) ++ codes "." ++ decimal j.number

-- the line of the batch of this number, by its jobs
abbrev pub batch_text : ℕ → List Job → List ℕ
batch_text number jobs = codes "batch" ++ numbers_text (number ∷ []) ++ codes " steps" ++ numbers_text (steps_of_jobs jobs ∷ []) ++ codes " jobs" ++ flat_map job_text jobs ++ codes "\n"

-- the lines of these batches, the first of them having this number
abbrev pub batches_text : List Job → ℕ → List Batch → List ℕ
batches_text jobs number [] = []
batches_text jobs number (b ∷ bs) = batch_text number (jobs_of_batch jobs b) ++ batches_text jobs (number + 1) bs

abbrev pub fact_line : FactRecord → List ℕ
fact_line fact = codes "fact " ++ fact_text fact ++ codes "\n"

-- the lines of the entries, of the batches and of these facts
abbrev pub told_text : DeskRecord → List FactRecord → List ℕ
told_text d facts = flat_map entry_text d.entries ++ batches_text d.jobs 0 d.batches ++ flat_map fact_line facts ++ codes "end\n"

-- the text of a desk: its facts stand by their order
abbrev pub IsTranscript : DeskRecord → List ℕ → Type 0
IsTranscript d text = (facts : List FactRecord) × IsPermutation d.registry facts × IsSorted fact_order facts × (text ≡ told_text d facts)
