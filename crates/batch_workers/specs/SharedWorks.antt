-- What a worker does at a shared desk, told by the entries of its pass, and how it ends (docs/SERVICE.md).
use Rattle.std.specs.Prelude.{ℕ, ◌≡◌, Bool, true, false, List, ◌++◌, All, map}
use Rattle.cairo_model.specs.Certificate.Records.{CertRecord}
use Rattle.boot_program.specs.Batch.Parcels.{ParcelRecord}
use Rattle.desk_core.specs.declared.entry.FullEntry.{FullEntry}
use Rattle.desk_core.specs.declared.reply.Reply.{Reply}
use Rattle.desk_core.specs.declared.reply.Reply.TheVariants as reply
use Rattle.session_desk.specs.SeenDesks.{IsIdlePass, seen_desk}
use Rattle.session_desk.specs.Sessions.{with_pass}
use Rattle.turn_lock.specs.Passes.{Token}
use Rattle.batch_workers.specs.Works.{IsRejected, IsWorkOf, ends_with, idle_turns}
use Rattle.batch_workers.specs.declared.work_end.WorkEnd.{WorkEnd}
use Rattle.batch_workers.specs.declared.work_end.WorkEnd.TheVariants as work

-- ---- the end of a worker that waits at an open desk

-- whether the reply is that no job waits at a closed desk
abbrev pub is_over : Reply → Bool
is_over (reply.NothingWaiting closed) = closed
is_over r = false

-- the last two turns found no batch sealed, and then no job waiting at a closed desk
pub record EndOver (number : ℕ) (es : List FullEntry) : Type 0 where
  pub before : List FullEntry
  pub are : es ≡ before ++ idle_turns number true

-- the last turn didn't find that
abbrev pub EndOpen : List FullEntry → Type 0
EndOpen es = ends_with is_over es ≡ false

-- ---- the pass

-- the same pass has more entries, each of a worker's kinds under the pass's number
pub record PassWorks (Ends : List FullEntry → Type 0) (old new : Token FullEntry) : Type 0 where
  pub lock : new.lock ≡ old.lock
  pub number : new.number ≡ old.number
  pub width : new.width ≡ old.width
  pub more : List FullEntry
  pub mine : new.mine ≡ old.mine ++ map with_pass more
  pub works : All (IsWorkOf old.number) more
  pub ends : Ends more

-- ---- how it ends

-- Drained exactly where its entries end as `Drains` says, for they end as `Goes` says in all other cases. A batch that it rejects it
-- gave back, and what is said of that batch is so at the desk as the pass saw it last.
abbrev pub WorkerDone : (Drains Goes : List FullEntry → Type 0) (Honest : Type 0) (Gives : ParcelRecord → CertRecord → Type 0) (old new : Token FullEntry) → WorkEnd → Type 0
WorkerDone D G H M old new work.Drained = PassWorks D old new × IsIdlePass new
WorkerDone D G H M old new work.OutOfMemory = PassWorks G old new
WorkerDone D G H M old new (work.Rejected b fault) = PassWorks G old new × (IsIdlePass new × IsRejected H M (seen_desk new) b fault)
