-- A batch in hand is registered.
use Rattle.std.proofs.Common.{◌≡◌, ℕ, Bool, true, cond, List, [], ◌∷◌, ◌++◌, refl, sym, ap, ◌∙◌, subst}
use Rattle.std.specs.Prelude.{Option, Some, None, slice_get}
use Rattle.cairo_model.specs.Pie.Records.{PieRecord}
use Rattle.boot_program.specs.Batch.Parcels.{CertifiedRecord}
use Rattle.desk_core.specs.DeskRecords.{DeskRecord, plain_of, tasks_at}
use Rattle.desk_core.specs.Desks.{is_sealed, is_taken_by, phase_at}
use Rattle.desk_core.specs.Journals.{no_pie}
use Rattle.desk_core.specs.Next.{after_event, after_register, parcel_reply, reply_to}
use Rattle.desk_core.specs.Turns.{entry_of}
use Rattle.desk_core.specs.declared.event.Event.TheVariants as event
use Rattle.desk_core.specs.declared.phase.Phase.{Phase}
use Rattle.desk_core.specs.declared.phase.Phase.TheVariants as phase
use Rattle.desk_core.specs.declared.reply.Reply.{Reply}
use Rattle.desk_core.specs.declared.reply.Reply.TheVariants as reply
use Rattle.desk_core.specs.Registrations.{IsLeastDifference, IsRegistering, pies_in}
use Rattle.batch_workers.specs.declared.round.Round.TheVariants as round
use Rattle.batch_workers.specs.Works.{IsIdle}
use Rattle.batch_workers.specs.Working.Rounds.{HoldsAlone, RegisterDone, remaining}
use Rattle.batch_workers.proofs.Endings.{busy_from}
use Rattle.batch_workers.proofs.Events.{one_event}
use Rattle.batch_workers.proofs.Measures.{same_left}
use Rattle.batch_workers.proofs.Returning.{own_batch}
use Rattle.batch_workers.proofs.Taking.{idle_again, pies_of_batch}

module _ (pass : ℕ) (old new : DeskRecord) (b : ℕ) (certified : CertifiedRecord) (h : HoldsAlone pass (plain_of old) b (pies_in certified.parcel.tasks)) where
  own : is_taken_by pass (phase_at (plain_of old) b) ≡ true
  own = own_batch pass (plain_of old) b (pies_in certified.parcel.tasks) h

  same_pies : pies_in certified.parcel.tasks ≡ pies_in (tasks_at old b)
  same_pies = sym h.are ∙ sym (pies_of_batch old.jobs old.batches b)

  no_difference : (o : Option ℕ) → IsLeastDifference (pies_in certified.parcel.tasks) (pies_in (tasks_at old b)) o → o ≡ None
  no_difference None x = refl
  no_difference (Some i) x = absurd (x.0 (ap (λ (ps : List PieRecord). slice_get ps i) same_pies))

  replied : (r : Reply) → IsRegistering old new pass b certified r → r ≡ reply.Registered
  unfolding reply_to
  replied r x =
      x.turn.replies
      ∙ (ap (λ (t : Bool). cond t (parcel_reply x.differs) (reply.NotTaken (phase_at (plain_of old) b))) own
      ∙ ap parcel_reply (no_difference x.differs x.least))

  becomes : IsRegistering old new pass b certified reply.Registered → plain_of new ≡ after_register (plain_of old) b None
  unfolding after_event
  becomes x =
      x.turn.becomes
      ∙ (ap (λ (t : Bool). cond t (after_register (plain_of old) b x.differs) (plain_of old)) own
      ∙ ap (after_register (plain_of old) b) (no_difference x.differs x.least))

  pub went : IsRegistering old new pass b certified reply.Registered → RegisterDone pass old new round.Went
  went x = (
    busy_from pass old new (entry_of pass (event.Register b x.differs) no_pie reply.Registered) refl (one_event old new pass (event.Register b x.differs) reply.Registered refl refl x.turn),
    (
      subst (IsIdle pass) (sym (becomes x)) (idle_again pass (plain_of old) b phase.Registered ((plain_of old).registered ++ b ∷ []) (pies_in certified.parcel.tasks) (λ q. cc) h),
      ap remaining (becomes x) ∙ same_left (plain_of old) b phase.Registered ((plain_of old).registered ++ b ∷ []) refl (ap is_sealed h.taken),
    ),
  )

  pub never_not_taken : (p : Phase) → IsRegistering old new pass b certified (reply.NotTaken p) → ⊥
  never_not_taken p x = let e : reply.NotTaken p ≡ reply.Registered = replied (reply.NotTaken p) x in cc

  pub never_stranger : (i : ℕ) → IsRegistering old new pass b certified (reply.Stranger i) → ⊥
  never_stranger i x = let e : reply.Stranger i ≡ reply.Registered = replied (reply.Stranger i) x in cc
