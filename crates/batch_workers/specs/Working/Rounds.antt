-- What one round of a worker does, and its steps.
use Rattle.std.specs.Prelude.{ℕ, ◌≡◌, ◌≢◌, ◌+◌, ◌*◌, ◌<◌, Bool, true, false, List, [], ◌∷◌, length, filter}
use Rattle.cairo_model.specs.Certificate.Records.{CertRecord}
use Rattle.cairo_model.specs.Pie.Records.{PieRecord}
use Rattle.boot_program.specs.Batch.Parcels.{ParcelRecord}
use Rattle.boot_program.specs.declared.run_fault.RunFault.{RunFault}
use Rattle.cairo_model.specs.declared.end.End.{End}
use Rattle.cairo_model.specs.declared.end.End.TheVariants as end
use Rattle.desk_core.specs.DeskRecords.{DeskRecord, plain_of}
use Rattle.desk_core.specs.Desks.{PlainBatch, PlainDesk, is_sealed, phase_at, waiting_jobs}
use Rattle.desk_core.specs.Journals.{no_pie}
use Rattle.desk_core.specs.Turns.{entry_of}
use Rattle.desk_core.specs.declared.entry.FullEntry.{FullEntry}
use Rattle.desk_core.specs.declared.event.Event.TheVariants as event
use Rattle.desk_core.specs.declared.phase.Phase.TheVariants as phase
use Rattle.desk_core.specs.declared.reply.Reply.TheVariants as reply
use Rattle.desk_core.specs.Stays.{pies_at}
use Rattle.batch_workers.specs.Works.{AllRegistered, EndBusy, IsIdle, IsRejected, Works, WorksAlone, idle_turns}
use Rattle.batch_workers.specs.declared.round.Round.{Round}
use Rattle.batch_workers.specs.declared.round.Round.TheVariants as round
use Rattle.batch_workers.specs.declared.work_end.WorkEnd.TheVariants as work

-- ---- what is left to do

abbrev pub sealed_count : List PlainBatch → ℕ
sealed_count batches = length (filter (λ b. is_sealed b.phase) batches)

-- each job that waits is to be sealed and registered, each sealed batch to be registered
abbrev pub remaining : PlainDesk → ℕ
remaining d = 2 * length (waiting_jobs d) + sealed_count d.batches

-- ---- the pass

-- this batch alone is in hand, and has these PIEs
pub record HoldsAlone (pass : ℕ) (d : PlainDesk) (b : ℕ) (pies : List PieRecord) : Type 0 where
  pub taken : phase_at d b ≡ phase.Taken pass
  pub alone : (k : ℕ) → k ≢ b → phase_at d k ≢ phase.Taken pass
  pub are : pies_at d b ≡ pies

-- the entries are just these
abbrev pub Are : List FullEntry → List FullEntry → Type 0
Are these es = es ≡ these

-- ---- rounds

abbrev pub RoundDone : ℕ → (H : Type 0) (G : ParcelRecord → CertRecord → Type 0) (old new : DeskRecord) → Round → Type 0
RoundDone pass H G old new round.Went = Works pass EndBusy old new × (IsIdle pass (plain_of new) × (remaining (plain_of new) < remaining (plain_of old)))
RoundDone pass H G old new round.Idle =
    (closed : Bool) × (Works pass (Are (idle_turns pass closed)) old new × (IsIdle pass (plain_of new) × (WorksAlone pass (plain_of old) → AllRegistered (plain_of new))))
RoundDone pass H G old new (round.Ended work.Drained) = ⊥
RoundDone pass H G old new (round.Ended work.OutOfMemory) = Works pass EndBusy old new
RoundDone pass H G old new (round.Ended (work.Rejected b fault)) = Works pass EndBusy old new × (IsIdle pass (plain_of new) × IsRejected H G (plain_of new) b fault)

-- the round of a batch in hand
abbrev pub BatchDone : ℕ → (H : Type 0) (G : ParcelRecord → CertRecord → Type 0) (old new : DeskRecord) → Round → Type 0
BatchDone pass H G old new round.Went = Works pass EndBusy old new × (IsIdle pass (plain_of new) × (remaining (plain_of new) ≡ remaining (plain_of old)))
BatchDone pass H G old new round.Idle = ⊥
BatchDone pass H G old new (round.Ended work.Drained) = ⊥
BatchDone pass H G old new (round.Ended work.OutOfMemory) = Works pass EndBusy old new
BatchDone pass H G old new (round.Ended (work.Rejected b fault)) = Works pass EndBusy old new × (IsIdle pass (plain_of new) × IsRejected H G (plain_of new) b fault)

-- the round where no batch is sealed
abbrev pub SealDone : ℕ → (old new : DeskRecord) → Round → Type 0
SealDone pass old new round.Went = Works pass EndBusy old new × (IsIdle pass (plain_of new) × (remaining (plain_of new) < remaining (plain_of old)))
SealDone pass old new round.Idle =
    (closed : Bool) × (Works pass (Are (entry_of pass event.Seal no_pie (reply.NothingWaiting closed) ∷ [])) old new × (IsIdle pass (plain_of new) × (WorksAlone pass (plain_of old) → AllRegistered (plain_of new))))
SealDone pass old new (round.Ended work.Drained) = ⊥
SealDone pass old new (round.Ended work.OutOfMemory) = Works pass EndBusy old new
SealDone pass old new (round.Ended (work.Rejected b fault)) = ⊥

-- what a sealing comes to, by whether no job waits
abbrev pub sealing_round : Bool → Round
sealing_round true = round.Idle
sealing_round false = round.Went

-- whether the batch was given back, and else the desk is as before but for its turns
abbrev pub HandedBack : ℕ → ℕ → List PieRecord → (old new : DeskRecord) → Bool → Type 0
HandedBack pass b pies old new true =
    Works pass EndBusy old new × (IsIdle pass (plain_of new) × ((phase_at (plain_of new) b ≡ phase.Sealed) × (pies_at (plain_of new) b ≡ pies)))
HandedBack pass b pies old new false = Works pass EndBusy old new × (plain_of new ≡ plain_of old)

-- what a certificate with this fault comes to, by whether the batch was given back
abbrev pub rejecting_round : Bool → ℕ → RunFault → Round
rejecting_round true b fault = round.Ended (work.Rejected b fault)
rejecting_round false b fault = round.Ended work.OutOfMemory

-- the round of a batch that got no certificate
abbrev pub NotCertified : ℕ → ℕ → List PieRecord → End RunFault → (old new : DeskRecord) → Round → Type 0
NotCertified pass b pies e old new round.Went = ⊥
NotCertified pass b pies e old new round.Idle = ⊥
NotCertified pass b pies e old new (round.Ended work.Drained) = ⊥
NotCertified pass b pies e old new (round.Ended work.OutOfMemory) = Works pass EndBusy old new
NotCertified pass b pies e old new (round.Ended (work.Rejected k fault)) = HandedBack pass b pies old new true × ((k ≡ b) × (e ≡ end.Refused fault))

-- whether the batch in hand was registered
abbrev pub RegisterDone : ℕ → (old new : DeskRecord) → Round → Type 0
RegisterDone pass old new round.Went = Works pass EndBusy old new × (IsIdle pass (plain_of new) × (remaining (plain_of new) ≡ remaining (plain_of old)))
RegisterDone pass old new round.Idle = ⊥
RegisterDone pass old new (round.Ended work.Drained) = ⊥
RegisterDone pass old new (round.Ended work.OutOfMemory) = Works pass EndBusy old new
RegisterDone pass old new (round.Ended (work.Rejected b fault)) = ⊥
