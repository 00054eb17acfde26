-- What registering a batch owes: where the parcel differs from the batch, and what comes back.
use Rattle.std.specs.Prelude.{ℕ, ◌≡◌, ◌<◌, List, map, Option, Some, None, slice_get}
use Rattle.cairo_model.specs.Pie.Acceptance.{CheckedRecord}
use Rattle.cairo_model.specs.Pie.Records.{PieRecord}
use Rattle.boot_program.specs.Batch.Parcels.{CertifiedRecord}
use Rattle.desk_core.specs.DeskRecords.{DeskRecord, tasks_at}
use Rattle.desk_core.specs.Journals.{no_pie}
use Rattle.desk_core.specs.Turns.{IsTurn, cert_at, turned}
use Rattle.desk_core.specs.declared.event.Event.TheVariants.{Register}
use Rattle.desk_core.specs.declared.register_end.RegisterEnd.{RegisterEnd}
use Rattle.desk_core.specs.declared.register_end.RegisterEnd.TheVariants as end
use Rattle.desk_core.specs.declared.reply.Reply.{Reply}
use Rattle.desk_core.specs.declared.reply.Reply.TheVariants as reply

abbrev pub pies_in : List CheckedRecord → List PieRecord
pies_in tasks = map (λ t. t.pie) tasks

-- both lists have the same PIE at this index, or both have none there
abbrev pub SamePieAt : List PieRecord → List PieRecord → ℕ → Type 0
SamePieAt given kept i = slice_get given i ≡ slice_get kept i

-- the least index at which the lists differ, where they do
abbrev pub IsLeastDifference : List PieRecord → List PieRecord → Option ℕ → Type 0
IsLeastDifference given kept None = given ≡ kept
IsLeastDifference given kept (Some i) = (¬ SamePieAt given kept i) × ((k : ℕ) → k < i → SamePieAt given kept k)

-- one event, which says where the certified parcel differs from the batch
pub record IsRegistering (old new : DeskRecord) (pass b : ℕ) (certified : CertifiedRecord) (r : Reply) : Type 0 where
  pub differs : Option ℕ
  pub least : IsLeastDifference (pies_in certified.parcel.tasks) (pies_in (tasks_at old b)) differs
  pub turn : IsTurn old new pass (Register b differs) no_pie r

-- the batch of this number keeps just this certificate
abbrev pub KeepsJust : DeskRecord → ℕ → CertifiedRecord → Type 0
KeepsJust d b certified = cert_at d.batches b ≡ Some (Some certified.cert)

-- What isn't registered comes back. After want of memory only the count of turns differs.
abbrev pub IsRegisterEnd : DeskRecord → DeskRecord → ℕ → ℕ → CertifiedRecord → RegisterEnd → Type 0
IsRegisterEnd old new pass b certified end.Done = IsRegistering old new pass b certified reply.Registered × KeepsJust new b certified
IsRegisterEnd old new pass b certified (end.NotTaken p back) = IsRegistering old new pass b certified (reply.NotTaken p) × (back ≡ certified)
IsRegisterEnd old new pass b certified (end.Stranger i back) = IsRegistering old new pass b certified (reply.Stranger i) × (back ≡ certified)
IsRegisterEnd old new pass b certified (end.OutOfMemory back) = (new ≡ turned old) × (back ≡ certified)
