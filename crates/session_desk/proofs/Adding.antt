-- An event adds one entry of its pass to the journal, and want of memory adds none.
use Rattle.std.proofs.Common.{◌≡◌, ℕ, [], ◌∷◌, ◌++◌, map, refl, sym, ap, ◌∙◌, inl, inr}
use Rattle.std.specs.Prelude.{Option, Result, Ok, Err, IfOk, OnErr}
use Rattle.std.specs.declared.alloc.AllocError.{AllocError}
use Rattle.std.proofs.lemmas.List.{map-append, append-nil}
use Rattle.boot_program.specs.Batch.Parcels.{CertifiedRecord, ParcelRecord}
use Rattle.cairo_model.specs.Pie.Records.{PieRecord}
use Rattle.desk_core.specs.DeskRecords.{DeskRecord, journal_of}
use Rattle.desk_core.specs.Journals.{no_pie}
use Rattle.desk_core.specs.Registrations.{IsRegisterEnd}
use Rattle.desk_core.specs.Turns.{IsTurn, entry_of, handed_out, turned}
use Rattle.desk_core.specs.declared.event.Event.{Event}
use Rattle.desk_core.specs.declared.event.Event.TheVariants as event
use Rattle.desk_core.specs.declared.register_end.RegisterEnd.{RegisterEnd}
use Rattle.desk_core.specs.declared.register_end.RegisterEnd.TheVariants as end
use Rattle.desk_core.specs.declared.reply.Reply.{Reply}
use Rattle.desk_core.specs.declared.reply.Reply.TheVariants as reply
use Rattle.session_desk.specs.PassTurns.{TakeDone}
use Rattle.session_desk.specs.Sessions.{own_entry, passed_journal, with_pass}
use Rattle.turn_lock.specs.Journals.{AddsAtMostOne}

-- the journal that a turn leaves
pub one_longer : (old new : DeskRecord) (pass : ℕ) (e : Event) (pie : PieRecord) (r : Reply) → IsTurn old new pass e pie r → passed_journal new ≡ passed_journal old ++ own_entry pass e pie r ∷ []
one_longer old new pass e pie r turn = ap (map with_pass) turn.journal ∙ map-append with_pass (journal_of old) (entry_of pass e pie r ∷ [])

pub none_longer : (old new : DeskRecord) → new ≡ turned old → passed_journal new ≡ passed_journal old ++ []
none_longer old new is = ap passed_journal is ∙ sym (append-nil (passed_journal old))

adds_turn : (old new : DeskRecord) (pass : ℕ) (e : Event) (pie : PieRecord) (r : Reply) → IsTurn old new pass e pie r → AddsAtMostOne pass (passed_journal old) (passed_journal new)
adds_turn old new pass e pie r turn = (own_entry pass e pie r ∷ [], one_longer old new pass e pie r turn, inr (entry_of pass e pie r, refl))

adds_none : (old new : DeskRecord) (pass : ℕ) → new ≡ turned old → AddsAtMostOne pass (passed_journal old) (passed_journal new)
adds_none old new pass is = ([], none_longer old new is, inl refl)

pub adds_one : (old new : DeskRecord) (pass : ℕ) (e : Event) (pie : PieRecord) (answer : Result Reply AllocError) → IfOk answer (λ r. IsTurn old new pass e pie r) → OnErr answer (new ≡ turned old)
    → AddsAtMostOne pass (passed_journal old) (passed_journal new)
adds_one old new pass e pie (Ok r) ok err = adds_turn old new pass e pie r ok
adds_one old new pass e pie (Err x) ok err = adds_none old new pass err

pub taking_done : (old new : DeskRecord) (pass : ℕ) (answer : Result (Reply × Option ParcelRecord) AllocError) → IfOk answer (λ r. IsTurn old new pass event.Take no_pie r.0) → IfOk answer (λ r. r.1 ≡ handed_out old r.0)
    → OnErr answer (new ≡ turned old) → TakeDone pass old new answer
taking_done old new pass (Ok r) ok parcel err = (ok, parcel)
taking_done old new pass (Err x) ok parcel err = err

pub adds_taken : (old new : DeskRecord) (pass : ℕ) (answer : Result (Reply × Option ParcelRecord) AllocError) → TakeDone pass old new answer → AddsAtMostOne pass (passed_journal old) (passed_journal new)
adds_taken old new pass (Ok r) done = adds_turn old new pass event.Take no_pie r.0 done.0
adds_taken old new pass (Err x) done = adds_none old new pass done

pub adds_registered : (old new : DeskRecord) (pass batch : ℕ) (certified : CertifiedRecord) (r : RegisterEnd) → IsRegisterEnd old new pass batch certified r → AddsAtMostOne pass (passed_journal old) (passed_journal new)
adds_registered old new pass batch certified end.Done d = adds_turn old new pass (event.Register batch d.0.differs) no_pie reply.Registered d.0.turn
adds_registered old new pass batch certified (end.NotTaken p back) d = adds_turn old new pass (event.Register batch d.0.differs) no_pie (reply.NotTaken p) d.0.turn
adds_registered old new pass batch certified (end.Stranger i back) d = adds_turn old new pass (event.Register batch d.0.differs) no_pie (reply.Stranger i) d.0.turn
adds_registered old new pass batch certified (end.OutOfMemory back) d = adds_none old new pass d.0
