-- Next: for each event, the reply to it and the desk after it.
use Rattle.std.specs.Prelude.{ℕ, ◌==◌, Bool, true, List, [], ◌∷◌, ◌++◌, length, map, Option, Some, None, if◌then◌else◌}
use Rattle.std.specs.List.{list_any}
use Rattle.cairo_model.specs.Pie.Acceptance.{FactRecord}
use Rattle.cairo_model.specs.Pie.FactOrder.{same_fact}
use Rattle.cairo_model.specs.Pie.Records.{PieRecord}
use Rattle.cairo_model.specs.Pie.Shapes.{shape_of}
use Rattle.desk_core.specs.Desks.{PlainDesk, PlainJob, PlainBatch, jobs_of, shapes_of, batched, waiting_jobs, phase_at, is_taken_by, first_sealed, set_phase, shown_facts, job_phase}
use Rattle.desk_core.specs.NextBatch.{longest_cut}
use Rattle.desk_core.specs.Quotas.{is_admitted, quota_reply}
use Rattle.desk_core.specs.declared.event.Event.{Event}
use Rattle.desk_core.specs.declared.event.Event.TheVariants as event
use Rattle.desk_core.specs.declared.event.OfferNote.{OfferNote}
use Rattle.desk_core.specs.declared.event.OfferNote.TheVariants as note
use Rattle.desk_core.specs.declared.phase.Phase.TheVariants as phase
use Rattle.desk_core.specs.declared.reply.Reply.{Reply}
use Rattle.desk_core.specs.declared.reply.Reply.TheVariants as reply

-- ---- replies

abbrev pub offered_reply : List PlainJob → Bool → ℕ → OfferNote → Reply
offered_reply jobs closed client (note.Refused r) = reply.Refused r
offered_reply jobs closed client (note.Accepted shape fact) = if closed then reply.Closed else quota_reply (shapes_of client jobs) shape

abbrev pub submit_reply : PlainDesk → ℕ → OfferNote → Reply
submit_reply d client n = offered_reply d.jobs d.closed client n

abbrev pub seal_reply : PlainDesk → Reply
seal_reply d = if length (waiting_jobs d) == 0 then reply.NothingWaiting d.closed else reply.SealedBatch (length d.batches)

abbrev pub take_reply : Option ℕ → Reply
take_reply None = reply.NothingSealed
take_reply (Some b) = reply.TakenBatch b

-- by the least index at which the parcel's PIEs differ from the batch's
abbrev pub parcel_reply : Option ℕ → Reply
parcel_reply None = reply.Registered
parcel_reply (Some i) = reply.Stranger i

abbrev pub if_taken : PlainDesk → ℕ → ℕ → Reply → Reply
if_taken d pass b r = if is_taken_by pass (phase_at d b) then r else reply.NotTaken (phase_at d b)

abbrev pub ask_reply : PlainDesk → FactRecord → Reply
ask_reply d fact = if list_any (same_fact fact) (shown_facts d) then reply.Yes else reply.No

unfoldable pub reply_to : PlainDesk → ℕ → Event → Reply
reply_to d pass (event.Submit client n) = submit_reply d client n
reply_to d pass event.Seal = seal_reply d
reply_to d pass event.Take = take_reply (first_sealed d)
reply_to d pass (event.Register b differs) = if_taken d pass b (parcel_reply differs)
reply_to d pass (event.GiveBack b) = if_taken d pass b reply.Returned
reply_to d pass (event.Ask client fact) = ask_reply d fact
reply_to d pass (event.Status client number) = reply.IsAt (job_phase d client number)
reply_to d pass event.Close = reply.Closed

-- ---- changes: what isn't named stays

abbrev pub with_job : PlainDesk → ℕ → PieRecord → PlainDesk
with_job d client pie = record d { jobs = d.jobs ++ record { client = client; number = length (jobs_of client d.jobs); pie = pie } ∷ [] }

-- the longest prefix of the waiting jobs within the batch limits
abbrev pub next_batch : PlainDesk → PlainBatch
next_batch d = record { first = batched d; count = longest_cut (map (λ j. shape_of j.pie) (waiting_jobs d)); phase = phase.Sealed }

abbrev pub after_seal : PlainDesk → PlainDesk
after_seal d = if length (waiting_jobs d) == 0 then d else record d { batches = d.batches ++ next_batch d ∷ [] }

abbrev pub after_take : PlainDesk → ℕ → Option ℕ → PlainDesk
after_take d pass None = d
after_take d pass (Some b) = record d { batches = set_phase d.batches b (phase.Taken pass) }

-- the batch is registered where the parcel doesn't differ from it
abbrev pub after_register : PlainDesk → ℕ → Option ℕ → PlainDesk
after_register d b None = record d { batches = set_phase d.batches b phase.Registered; registered = d.registered ++ b ∷ [] }
after_register d b (Some i) = d

abbrev pub after_give_back : PlainDesk → ℕ → PlainDesk
after_give_back d b = record d { batches = set_phase d.batches b phase.Sealed }

-- where the batch is taken by the pass
abbrev pub where_taken : PlainDesk → ℕ → ℕ → PlainDesk → PlainDesk
where_taken d pass b after = if is_taken_by pass (phase_at d b) then after else d

abbrev pub after_close : PlainDesk → PlainDesk
after_close d = record d { closed = true }

unfoldable pub after_event : PlainDesk → ℕ → Event → PieRecord → PlainDesk
after_event d pass (event.Submit client n) pie = if is_admitted (submit_reply d client n) then with_job d client pie else d
after_event d pass event.Seal pie = after_seal d
after_event d pass event.Take pie = after_take d pass (first_sealed d)
after_event d pass (event.Register b differs) pie = where_taken d pass b (after_register d b differs)
after_event d pass (event.GiveBack b) pie = where_taken d pass b (after_give_back d b)
after_event d pass (event.Ask client fact) pie = d
after_event d pass (event.Status client number) pie = d
after_event d pass event.Close pie = after_close d
