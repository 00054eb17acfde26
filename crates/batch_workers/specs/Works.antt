-- What a worker does at a desk of its own, and how it ends (docs/SERVICE.md).
use Rattle.std.specs.Prelude.{ℕ, ◌≡◌, ◌≢◌, ◌<◌, Bool, true, false, List, [], ◌∷◌, ◌++◌, All, length}
use Rattle.cairo_model.specs.Certificate.Records.{CertRecord}
use Rattle.boot_program.specs.Batch.Parcels.{ParcelRecord}
use Rattle.boot_program.specs.Faults.Causes.{IsFirstBatchFault}
use Rattle.boot_program.specs.Faults.Records.{fault_cause}
use Rattle.boot_program.specs.declared.run_fault.RunFault.{RunFault}
use Rattle.desk_core.specs.DeskRecords.{DeskRecord, journal_of, plain_of}
use Rattle.desk_core.specs.Desks.{PlainDesk, phase_at, phase_of_job}
use Rattle.desk_core.specs.Journals.{no_pie}
use Rattle.desk_core.specs.Turns.{entry_of}
use Rattle.desk_core.specs.declared.entry.FullEntry.{FullEntry}
use Rattle.desk_core.specs.declared.event.Event.{Event}
use Rattle.desk_core.specs.declared.event.Event.TheVariants as event
use Rattle.desk_core.specs.declared.phase.JobPhase.TheVariants as at
use Rattle.desk_core.specs.declared.phase.Phase.TheVariants as phase
use Rattle.desk_core.specs.declared.reply.Reply.{Reply}
use Rattle.desk_core.specs.declared.reply.Reply.TheVariants as reply
use Rattle.desk_core.specs.Registrations.{pies_in}
use Rattle.desk_core.specs.Stays.{pies_at}
use Rattle.batch_workers.specs.declared.work_end.WorkEnd.{WorkEnd}
use Rattle.batch_workers.specs.declared.work_end.WorkEnd.TheVariants as work

-- ---- the entries of a worker

-- whether it is one of the four kinds of event that a worker makes
abbrev pub is_work : Event → Bool
is_work event.Seal = true
is_work event.Take = true
is_work (event.Register b differs) = true
is_work (event.GiveBack b) = true
is_work (event.Submit client n) = false
is_work (event.Ask client fact) = false
is_work (event.Status client number) = false
is_work event.Close = false

-- whether the reply says neither that the pass doesn't hold the batch nor that the parcel is another one
abbrev pub is_of_holder : Reply → Bool
is_of_holder (reply.NotTaken stands) = false
is_of_holder (reply.Stranger i) = false
is_of_holder r = true

-- an entry of such an event, under this pass, whose reply says neither
pub record IsWorkOf (pass : ℕ) (e : FullEntry) : Type 0 where
  pub own : e.entry.pass ≡ pass
  pub kind : is_work e.entry.event ≡ true
  pub held : is_of_holder e.entry.reply ≡ true

-- whether the reply is that no job waits
abbrev pub is_nothing : Reply → Bool
is_nothing (reply.NothingWaiting closed) = true
is_nothing r = false

-- whether the reply to the last of these entries passes the test
abbrev pub ends_with : (Reply → Bool) → List FullEntry → Bool
ends_with test [] = false
ends_with test (e ∷ []) = test e.entry.reply
ends_with test (e ∷ f ∷ es) = ends_with test (f ∷ es)

-- whether it is that no job waits
abbrev pub ends_idle : List FullEntry → Bool
ends_idle es = ends_with is_nothing es

-- the two turns in which a worker finds nothing to do: no batch is sealed, and then no job waits
abbrev pub idle_turns : ℕ → Bool → List FullEntry
idle_turns pass closed = entry_of pass event.Take no_pie reply.NothingSealed ∷ entry_of pass event.Seal no_pie (reply.NothingWaiting closed) ∷ []

-- the last two are those
pub record EndIdle (pass : ℕ) (es : List FullEntry) : Type 0 where
  pub before : List FullEntry
  pub closed : Bool
  pub are : es ≡ before ++ idle_turns pass closed

-- the last two aren't
abbrev pub EndBusy : List FullEntry → Type 0
EndBusy es = ends_idle es ≡ false

-- ---- the desk

-- no batch is taken by this pass
abbrev pub IsIdle : ℕ → PlainDesk → Type 0
IsIdle pass d = (b : ℕ) → phase_at d b ≢ phase.Taken pass

-- no batch is taken by another pass
abbrev pub WorksAlone : ℕ → PlainDesk → Type 0
WorksAlone pass d = (b by : ℕ) → phase_at d b ≡ phase.Taken by → by ≡ pass

-- each job is in a registered batch
abbrev pub AllRegistered : PlainDesk → Type 0
AllRegistered d = (i : ℕ) → i < length d.jobs → phase_of_job d i ≡ at.Registered

-- The worker of this pass made some entries, and nobody else made one: jobs, clients and the flag are as before, and no other pass
-- came to hold a batch.
pub record Works (pass : ℕ) (Ends : List FullEntry → Type 0) (old new : DeskRecord) : Type 0 where
  pub more : List FullEntry
  pub journal : journal_of new ≡ journal_of old ++ more
  pub works : All (IsWorkOf pass) more
  pub ends : Ends more
  pub jobs : (plain_of new).jobs ≡ (plain_of old).jobs
  pub clients : new.clients ≡ old.clients
  pub closed : new.closed ≡ old.closed
  pub alone : WorksAlone pass (plain_of old) → WorksAlone pass (plain_of new)

-- ---- how it ends

-- The maker, who is not honest, gives for the parcel a certificate with this first fault.
pub record IsFaulty (Honest : Type 0) (Gives : ParcelRecord → CertRecord → Type 0) (parcel : ParcelRecord) (fault : RunFault) : Type 0 where
  pub cert : CertRecord
  pub gives : Gives parcel cert
  pub fails : IsFirstBatchFault cert parcel.tasks (fault_cause fault)
  pub not_honest : Honest → ⊥

-- The batch of this number was given back: it stands sealed, and a parcel of its PIEs got a faulty certificate.
pub record IsRejected (Honest : Type 0) (Gives : ParcelRecord → CertRecord → Type 0) (d : PlainDesk) (b : ℕ) (fault : RunFault) : Type 0 where
  pub parcel : ParcelRecord
  pub number : parcel.batch ≡ b
  pub pies : pies_in parcel.tasks ≡ pies_at d b
  pub faulty : IsFaulty Honest Gives parcel fault
  pub sealed : phase_at d b ≡ phase.Sealed

abbrev pub IsNotRejected : WorkEnd → Type 0
IsNotRejected work.Drained = Unit {0}
IsNotRejected work.OutOfMemory = Unit {0}
IsNotRejected (work.Rejected b fault) = ⊥

-- Exactly where it ends Drained, its last two turns found nothing to do.
abbrev pub WorkDone : ℕ → (Honest : Type 0) (Gives : ParcelRecord → CertRecord → Type 0) (old new : DeskRecord) → WorkEnd → Type 0
WorkDone pass H G old new work.Drained =
    Works pass (EndIdle pass) old new × (IsIdle pass (plain_of new) × (WorksAlone pass (plain_of old) → AllRegistered (plain_of new)))
WorkDone pass H G old new work.OutOfMemory = Works pass EndBusy old new
WorkDone pass H G old new (work.Rejected b fault) = Works pass EndBusy old new × (IsIdle pass (plain_of new) × IsRejected H G (plain_of new) b fault)
