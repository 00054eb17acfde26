-- The entries that a pass has after a turn.
use Rattle.std.proofs.Common.{◌≡◌, ℕ, List, [], ◌∷◌, ◌++◌, sym, ap, ◌∙◌}
use Rattle.std.specs.Prelude.{Option, Result, Ok, Err}
use Rattle.std.specs.declared.alloc.AllocError.{AllocError}
use Rattle.std.proofs.lemmas.List.{append-nil, append_cancel_left}
use Rattle.boot_program.specs.Batch.Parcels.{CertifiedRecord, ParcelRecord}
use Rattle.cairo_model.specs.Pie.Records.{PieRecord}
use Rattle.desk_core.specs.DeskRecords.{DeskRecord}
use Rattle.desk_core.specs.Journals.{no_pie}
use Rattle.desk_core.specs.Turns.{IsTurn, turned}
use Rattle.desk_core.specs.declared.entry.FullEntry.{FullEntry}
use Rattle.desk_core.specs.declared.event.Event.{Event}
use Rattle.desk_core.specs.declared.event.Event.TheVariants as event
use Rattle.desk_core.specs.declared.register_end.RegisterEnd.{RegisterEnd}
use Rattle.desk_core.specs.declared.register_end.RegisterEnd.TheVariants as end
use Rattle.desk_core.specs.declared.reply.Reply.{Reply}
use Rattle.desk_core.specs.declared.reply.Reply.TheVariants as reply
use Rattle.session_desk.specs.PassTurns.{EventTurn, LeavesEntry, LeavesRegistration, LeavesTaking, PassTurn, RegisterTurn, TakeTurn}
use Rattle.session_desk.specs.Sessions.{HasOneMore, own_entry, passed_journal}
use Rattle.session_desk.proofs.Adding.{none_longer, one_longer}
use Rattle.turn_lock.specs.Passes.{Token}

module _ (old new : Token FullEntry) (before after : DeskRecord) (t : PassTurn old new before after) where
  pub has_one_more : (e : Event) (pie : PieRecord) (r : Reply) → IsTurn before after old.number e pie r → HasOneMore e pie old new r
  has_one_more e pie r turn =
      t.mine_is
      ∙ ap (λ (xs : List (ℕ × FullEntry)). old.mine ++ xs) (append_cancel_left (passed_journal before) t.added (own_entry old.number e pie r ∷ []) (sym t.grows ∙ one_longer before after old.number e pie r turn))

  pub has_none_more : after ≡ turned before → new.mine ≡ old.mine
  has_none_more is =
      t.mine_is ∙ (ap (λ (xs : List (ℕ × FullEntry)). old.mine ++ xs) (append_cancel_left (passed_journal before) t.added [] (sym t.grows ∙ none_longer before after is)) ∙ append-nil old.mine)

pub leaves_entry : (e : Event) (pie : PieRecord) (old new : Token FullEntry) (answer : Result Reply AllocError) → EventTurn e pie old new answer → LeavesEntry e pie old new answer
leaves_entry e pie old new (Ok r) t = has_one_more old new t.before t.after t.turn e pie r t.done
leaves_entry e pie old new (Err x) t = has_none_more old new t.before t.after t.turn t.done

pub leaves_taking : (old new : Token FullEntry) (answer : Result (Reply × Option ParcelRecord) AllocError) → TakeTurn old new answer → LeavesTaking old new answer
leaves_taking old new (Ok r) t = has_one_more old new t.before t.after t.turn event.Take no_pie r.0 t.done.0
leaves_taking old new (Err x) t = has_none_more old new t.before t.after t.turn t.done

pub leaves_registration : (batch : ℕ) (certified : CertifiedRecord) (old new : Token FullEntry) (r : RegisterEnd) → RegisterTurn batch certified old new r → LeavesRegistration batch old new r
leaves_registration batch certified old new end.Done t = (t.done.0.differs, has_one_more old new t.before t.after t.turn (event.Register batch t.done.0.differs) no_pie reply.Registered t.done.0.turn)
leaves_registration batch certified old new (end.NotTaken p back) t = (t.done.0.differs, has_one_more old new t.before t.after t.turn (event.Register batch t.done.0.differs) no_pie (reply.NotTaken p) t.done.0.turn)
leaves_registration batch certified old new (end.Stranger i back) t = (t.done.0.differs, has_one_more old new t.before t.after t.turn (event.Register batch t.done.0.differs) no_pie (reply.Stranger i) t.done.0.turn)
leaves_registration batch certified old new (end.OutOfMemory back) t = has_none_more old new t.before t.after t.turn t.done.0
