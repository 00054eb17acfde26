-- What a turn of a pass at a shared desk is, and what each event does in it.
use Rattle.std.specs.Prelude.{◌≡◌, ℕ, List, ◌++◌, Option, Result, MatchResult}
use Rattle.cairo_model.specs.Pie.Records.{PieRecord}
use Rattle.boot_program.specs.Batch.Parcels.{CertifiedRecord, ParcelRecord}
use Rattle.desk_core.specs.DeskRecords.{DeskRecord}
use Rattle.desk_core.specs.GoodDesks.{IsGoodDesk}
use Rattle.desk_core.specs.Journals.{no_pie}
use Rattle.desk_core.specs.Registrations.{IsRegisterEnd}
use Rattle.desk_core.specs.Turns.{IsTurn, handed_out, turned}
use Rattle.desk_core.specs.declared.entry.FullEntry.{FullEntry}
use Rattle.desk_core.specs.declared.event.Event.{Event}
use Rattle.desk_core.specs.declared.event.Event.TheVariants.{Register, Take}
use Rattle.desk_core.specs.declared.register_end.RegisterEnd.{RegisterEnd}
use Rattle.desk_core.specs.declared.register_end.RegisterEnd.TheVariants as end
use Rattle.desk_core.specs.declared.reply.Reply.{Reply}
use Rattle.desk_core.specs.declared.reply.Reply.TheVariants as reply
use Rattle.session_desk.specs.Sessions.{HasOneMore, passed_journal}
use Rattle.std.specs.declared.alloc.AllocError.{AllocError}
use Rattle.turn_lock.specs.Journals.{IsAtMostOne, IsPrefix, entries_by}
use Rattle.turn_lock.specs.Passes.{Token}

-- ---- turns

-- A turn of a pass took the desk from the first to the second. The first had all that the pass had seen, and of the pass's number no
-- other entries than the pass's own; the pass has then seen the journal of the second, and has what was added.
pub record PassTurn (old new : Token FullEntry) (before after : DeskRecord) : Type 0 where
  pub good_before : IsGoodDesk before
  pub good_after : IsGoodDesk after
  pub width_is : before.clients ≡ old.width
  pub has_seen : IsPrefix old.seen (passed_journal before)
  pub has_mine : entries_by old.number (passed_journal before) ≡ old.mine
  pub added : List (ℕ × FullEntry)
  pub grows : passed_journal after ≡ passed_journal before ++ added
  pub one : IsAtMostOne old.number added
  pub mine_is : new.mine ≡ old.mine ++ added
  pub sees : new.seen ≡ passed_journal after
  pub same : (new.lock ≡ old.lock) × (new.number ≡ old.number) × (new.width ≡ old.width)

abbrev pub StillGood : DeskRecord → DeskRecord → Type 0
StillGood before after = IsGoodDesk before × IsGoodDesk after

-- ---- what an event does to the desk: after want of memory only the count of turns differs

abbrev pub EventDone : ℕ → Event → PieRecord → (before after : DeskRecord) → Result Reply AllocError → Type 0
EventDone pass e pie before after answer = MatchResult answer (λ r. IsTurn before after pass e pie r) (λ _. after ≡ turned before)

abbrev pub TakeDone : ℕ → (before after : DeskRecord) → Result (Reply × Option ParcelRecord) AllocError → Type 0
TakeDone pass before after answer = MatchResult answer (λ r. IsTurn before after pass Take no_pie r.0 × (r.1 ≡ handed_out before r.0)) (λ _. after ≡ turned before)

-- ---- the turn of an event: its reply is the desk's at this turn

pub record EventTurn (e : Event) (pie : PieRecord) (old new : Token FullEntry) (answer : Result Reply AllocError) : Type 0 where
  pub before : DeskRecord
  pub after : DeskRecord
  pub turn : PassTurn old new before after
  pub done : EventDone old.number e pie before after answer

-- the parcel beside the reply has the tasks that the batch has at this turn
pub record TakeTurn (old new : Token FullEntry) (answer : Result (Reply × Option ParcelRecord) AllocError) : Type 0 where
  pub before : DeskRecord
  pub after : DeskRecord
  pub turn : PassTurn old new before after
  pub done : TakeDone old.number before after answer

pub record RegisterTurn (batch : ℕ) (certified : CertifiedRecord) (old new : Token FullEntry) (r : RegisterEnd) : Type 0 where
  pub before : DeskRecord
  pub after : DeskRecord
  pub turn : PassTurn old new before after
  pub done : IsRegisterEnd before after old.number batch certified r

-- ---- the entry that an event leaves with the pass: at want of memory its entries are as before

abbrev pub LeavesEntry : Event → PieRecord → (old new : Token FullEntry) → Result Reply AllocError → Type 0
LeavesEntry e pie old new answer = MatchResult answer (HasOneMore e pie old new) (λ _. new.mine ≡ old.mine)

abbrev pub LeavesTaking : (old new : Token FullEntry) → Result (Reply × Option ParcelRecord) AllocError → Type 0
LeavesTaking old new answer = MatchResult answer (λ r. HasOneMore Take no_pie old new r.0) (λ _. new.mine ≡ old.mine)

-- a registration with this reply, which says where the parcel differed from the batch
abbrev pub HasRegistration : ℕ → (old new : Token FullEntry) → Reply → Type 0
HasRegistration batch old new r = (differs : Option ℕ) × HasOneMore (Register batch differs) no_pie old new r

abbrev pub LeavesRegistration : ℕ → (old new : Token FullEntry) → RegisterEnd → Type 0
LeavesRegistration batch old new end.Done = HasRegistration batch old new reply.Registered
LeavesRegistration batch old new (end.NotTaken p back) = HasRegistration batch old new (reply.NotTaken p)
LeavesRegistration batch old new (end.Stranger i back) = HasRegistration batch old new (reply.Stranger i)
LeavesRegistration batch old new (end.OutOfMemory back) = new.mine ≡ old.mine
