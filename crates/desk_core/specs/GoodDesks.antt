-- What every desk keeps: its jobs are accepted, its numbers are sound, its certificates are those of its batches, its registry is
-- that of its registered batches, and its journal is legal.
use Rattle.std.specs.Prelude.{◌≡◌, ◌≢◌, List, All, length, Some, None}
use Rattle.cairo_model.specs.Certificate.Records.{CertRecord}
use Rattle.cairo_model.specs.Pie.Acceptance.{AcceptedWith, CheckedRecord}
use Rattle.boot_program.specs.Batch.Acceptance.{AcceptsBatch}
use Rattle.boot_program.specs.Batch.Standing.{AllStandIn}
use Rattle.desk_core.specs.DeskRecords.{DeskRecord, admitted_in, journal_of, plain_of, tasks_in}
use Rattle.desk_core.specs.Journals.{IsLegal}
use Rattle.desk_core.specs.RegisteredFacts.{registry_of}
use Rattle.desk_core.specs.SoundDesks.{IsSound}
use Rattle.desk_core.specs.declared.batch.Batch.{Batch}
use Rattle.desk_core.specs.declared.job.Job.{Job}
use Rattle.desk_core.specs.declared.phase.Phase.TheVariants as phase

-- the job's PIE is accepted alone, with the fact and the states that are kept with it
abbrev pub IsAcceptedJob : Job → Type 0
IsAcceptedJob j = AcceptedWith j.checked.pie j.checked.fact j.checked.states

-- the batch keeps a certificate that is accepted as one of these tasks, and each of them stands in it
pub record HasCert (tasks : List CheckedRecord) (b : Batch) : Type 0 where
  pub cert : CertRecord
  pub is : b.cert ≡ Some cert
  pub accepted : AcceptsBatch cert tasks
  pub stand : AllStandIn cert tasks

-- exactly a registered batch keeps a certificate
pub record KeepsCert (jobs : List Job) (b : Batch) : Type 0 where
  pub has : b.phase ≡ phase.Registered → HasCert (tasks_in jobs b) b
  pub has_none : b.phase ≢ phase.Registered → b.cert ≡ None

pub record IsGoodDesk (d : DeskRecord) : Type 0 where
  pub accepted : All IsAcceptedJob d.jobs
  pub sound : IsSound (plain_of d)
  pub certs : All (KeepsCert d.jobs) d.batches
  pub registry : d.registry ≡ registry_of (plain_of d)
  pub legal : IsLegal (journal_of d) (plain_of d)
  pub counts : admitted_in d.entries ≡ length d.jobs
