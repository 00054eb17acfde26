-- The turns in which a worker's pass registers the batch in hand and gives it back.
use Rattle.std.proofs.Common.{◌≡◌, ℕ, Bool, true, false, cond, List, [], ◌∷◌, refl, ap, ◌∙◌, subst}
use Rattle.std.specs.Prelude.{Ok, Err}
use Rattle.std.specs.declared.alloc.AllocError.{AllocError}
use Rattle.boot_program.specs.Batch.Parcels.{CertifiedRecord}
use Rattle.cairo_model.specs.Pie.Records.{PieRecord}
use Rattle.desk_core.specs.DeskRecords.{DeskRecord, journal_of, plain_of}
use Rattle.desk_core.specs.Desks.{PlainDesk, is_taken_by, phase_at}
use Rattle.desk_core.specs.Journals.{no_pie}
use Rattle.desk_core.specs.Next.{after_event, after_give_back}
use Rattle.desk_core.specs.Registrations.{IsLeastDifference, IsRegistering, pies_in}
use Rattle.desk_core.specs.Stays.{pies_at}
use Rattle.desk_core.specs.Turns.{IsTurn, entry_of}
use Rattle.desk_core.specs.declared.entry.FullEntry.{FullEntry}
use Rattle.desk_core.specs.declared.event.Event.TheVariants as event
use Rattle.desk_core.specs.declared.phase.Phase.{Phase}
use Rattle.desk_core.specs.declared.phase.Phase.TheVariants as phase
use Rattle.desk_core.specs.declared.register_end.RegisterEnd.TheVariants as end
use Rattle.desk_core.specs.declared.reply.Reply.{Reply}
use Rattle.desk_core.specs.declared.reply.Reply.TheVariants as reply
use Rattle.desk_core.proofs.BatchLemmas.{phase_moved}
use Rattle.desk_core.proofs.HandLemmas.{hand_law}
use Rattle.desk_core.proofs.SoundSteps.{taken_is}
use Rattle.desk_core.proofs.StaysLemmas.{registers_law, returns_law}
use Rattle.session_desk.specs.PassTurns.{EventTurn, PassTurn, RegisterTurn}
use Rattle.session_desk.specs.SeenDesks.{seen_desk}
use Rattle.session_desk.specs.Sessions.{HasOneMore}
use Rattle.session_desk.proofs.Knowing.{sees_after}
use Rattle.session_desk.proofs.Mine.{has_none_more, has_one_more}
use Rattle.turn_lock.specs.Passes.{Token}
use Rattle.batch_workers.specs.SharedWorks.{PassWorks}
use Rattle.batch_workers.specs.Working.SharedRounds.{HasBatch, PassBack, PassKept}
use Rattle.batch_workers.specs.Works.{EndBusy}
use Rattle.batch_workers.proofs.Endings.{busy_on}
use Rattle.batch_workers.proofs.PassEvents.{has_own, held, idle_registered, idle_returned, no_more, none_done, one_busy, stays, still_has, works_then}
use Rattle.batch_workers.proofs.Taking.{pies_of_batch}

-- ---- registering

module _ (old new : Token FullEntry) (b : ℕ) (certified : CertifiedRecord) (h : HasBatch old b) (pies : pies_in certified.parcel.tasks ≡ pies_at (seen_desk old) b) where
  module _ (before after : DeskRecord) (t : PassTurn old new before after) (r : Reply) (x : IsRegistering before after old.number b certified r) where
    -- the parcel is of the batch's PIEs at this turn
    differs : IsLeastDifference (pies_at (seen_desk old) b) (pies_at (plain_of before) b) x.differs
    differs = subst (λ (ps : List PieRecord). IsLeastDifference ps (pies_at (plain_of before) b) x.differs) pies
        (subst (λ (ps : List PieRecord). IsLeastDifference (pies_in certified.parcel.tasks) ps x.differs) (pies_of_batch before.jobs before.batches b) x.least)

    replies_registered : r ≡ reply.Registered
    replies_registered =
        x.turn.replies ∙ registers_law (journal_of before) (plain_of before) t.good_before.legal old.number b (pies_at (seen_desk old) b) (held old new before after t b h) x.differs differs

  pub never_not_held : (p : Phase) (back : CertifiedRecord) → RegisterTurn b certified old new (end.NotTaken p back) → ⊥
  never_not_held p back x = let e : reply.NotTaken p ≡ reply.Registered = replies_registered x.before x.after x.turn (reply.NotTaken p) x.done.0 in cc

  pub never_another : (i : ℕ) (back : CertifiedRecord) → RegisterTurn b certified old new (end.Stranger i back) → ⊥
  never_another i back x = let e : reply.Stranger i ≡ reply.Registered = replies_registered x.before x.after x.turn (reply.Stranger i) x.done.0 in cc

  pub was_registered : RegisterTurn b certified old new end.Done → PassKept b old new true
  was_registered x =
      let one = has_one_more old new x.before x.after x.turn (event.Register b x.done.0.differs) no_pie reply.Registered x.done.0.turn in
      (one_busy old new x.before x.after x.turn (event.Register b x.done.0.differs) reply.Registered refl refl refl one, idle_registered old new b x.done.0.differs one h)

  pub was_not_registered : (back : CertifiedRecord) → RegisterTurn b certified old new (end.OutOfMemory back) → PassKept b old new false
  was_not_registered back x =
      let same = has_none_more old new x.before x.after x.turn x.done.0 in
      (none_done old new x.before x.after x.turn same, (still_has old new x.before x.after x.turn x.done.0 b same h).0)

-- ---- giving back

module _ (old new : Token FullEntry) (b : ℕ) (h : HasBatch old b) where
  module _ (before after : DeskRecord) (t : PassTurn old new before after) where
    is_own : is_taken_by old.number (phase_at (plain_of before) b) ≡ true
    is_own = hand_law (journal_of before) (plain_of before) t.good_before.legal old.number b ∙ has_own old new before after t b h

    is_sealed_again : (r : Reply) → IsTurn before after old.number (event.GiveBack b) no_pie r → phase_at (seen_desk new) b ≡ phase.Sealed
    unfolding after_event
    is_sealed_again r turn =
        ap (λ (d : PlainDesk). phase_at d b) (sees_after old new before after t turn.clients)
        ∙ (ap (λ (d : PlainDesk). phase_at d b) (turn.becomes ∙ ap (λ (c : Bool). cond c (after_give_back (plain_of before) b) (plain_of before)) is_own)
        ∙ phase_moved (plain_of before).batches b phase.Sealed (taken_is old.number (phase_at (plain_of before) b) is_own).0)

    gives_back : (r : Reply) → IsTurn before after old.number (event.GiveBack b) no_pie r → PassBack b old new true
    gives_back r turn =
        let is : r ≡ reply.Returned = turn.replies ∙ returns_law (journal_of before) (plain_of before) t.good_before.legal old.number b (has_own old new before after t b h) in
        let one = subst (HasOneMore (event.GiveBack b) no_pie old new) is (has_one_more old new before after t (event.GiveBack b) no_pie r turn) in (
          one_busy old new before after t (event.GiveBack b) reply.Returned refl refl refl one,
          (idle_returned old new b one h, ((stays old new before after t (entry_of old.number (event.GiveBack b) no_pie r ∷ []) turn.journal b h).are, is_sealed_again r turn)),
        )

  pub was_given_back : (r : Reply) → EventTurn (event.GiveBack b) no_pie old new (Ok r) → PassBack b old new true
  was_given_back r x = gives_back x.before x.after x.turn r x.done

  pub was_not_given_back : (e : AllocError) → EventTurn (event.GiveBack b) no_pie old new (Err e) → PassBack b old new false
  was_not_given_back e x =
      let same = has_none_more old new x.before x.after x.turn x.done in
      (none_done old new x.before x.after x.turn same, still_has old new x.before x.after x.turn x.done b same h)

-- ---- giving back after some tries

pub not_tried : (p : Token FullEntry) (b : ℕ) → HasBatch p b → PassBack b p p false
not_tried p b h = (no_more p, (h, refl))

pub tried_then : (a c e : Token FullEntry) (b : ℕ) (t : Bool) → PassBack b a c false → PassBack b c e t → PassBack b a e t
tried_then a c e b true x y = (works_then a c e EndBusy EndBusy EndBusy busy_on x.0 y.0, (y.1.0, (y.1.1.0 ∙ x.1.1, y.1.1.1)))
tried_then a c e b false x y = (works_then a c e EndBusy EndBusy EndBusy busy_on x.0 y.0, (y.1.0, y.1.1 ∙ x.1.1))

pub back_busy : (a e : Token FullEntry) (b : ℕ) (t : Bool) → PassBack b a e t → PassWorks EndBusy a e
back_busy a e b true x = x.0
back_busy a e b false x = x.0
