-- What taking comes to: a batch is in hand, or none is sealed.
use Rattle.std.proofs.Common.{◌≡◌, ℕ, ◌<◌, [], ◌∷◌, refl, sym, ap, ◌∙◌, subst}
use Rattle.std.specs.Prelude.{Option, Some, None, unwrap_or}
use Rattle.boot_program.specs.Batch.Parcels.{ParcelRecord}
use Rattle.desk_core.specs.DeskRecords.{DeskRecord, plain_of, tasks_at}
use Rattle.desk_core.specs.Desks.{PlainDesk, first_sealed, set_phase}
use Rattle.desk_core.specs.Journals.{no_pie}
use Rattle.desk_core.specs.Next.{after_event, after_take, reply_to, take_reply}
use Rattle.desk_core.specs.Turns.{IsTurn, entry_of, handed_out}
use Rattle.desk_core.specs.declared.event.Event.TheVariants as event
use Rattle.desk_core.specs.declared.phase.Phase.TheVariants as phase
use Rattle.desk_core.specs.declared.reply.Reply.{Reply}
use Rattle.desk_core.specs.declared.reply.Reply.TheVariants as reply
use Rattle.desk_core.specs.Registrations.{pies_in}
use Rattle.desk_core.proofs.SoundSteps.{first_is_sealed}
use Rattle.batch_workers.specs.Works.{EndBusy, IsIdle, Works, is_nothing, is_of_holder}
use Rattle.batch_workers.specs.Working.Rounds.{Are, HoldsAlone, remaining}
use Rattle.batch_workers.proofs.Endings.{busy_from}
use Rattle.batch_workers.proofs.Events.{one_event}
use Rattle.batch_workers.proofs.Measures.{less_taken}
use Rattle.batch_workers.proofs.Taking.{holds_taken, pies_of_batch}

pub record TookBatch (pass : ℕ) (old new : DeskRecord) (parcel : ParcelRecord) : Type 0 where
  pub works : Works pass EndBusy old new
  pub holds : HoldsAlone pass (plain_of new) parcel.batch (pies_in parcel.tasks)
  pub less : remaining (plain_of new) < remaining (plain_of old)

pub record TookNone (pass : ℕ) (old new : DeskRecord) : Type 0 where
  pub works : Works pass (Are (entry_of pass event.Take no_pie reply.NothingSealed ∷ [])) old new
  pub same : plain_of new ≡ plain_of old
  pub none : first_sealed (plain_of old) ≡ None

-- the desk where this batch is taken
abbrev with_taken : ℕ → PlainDesk → ℕ → PlainDesk
with_taken pass d b = record d { batches = set_phase d.batches b (phase.Taken pass) }

module _ (pass : ℕ) (old new : DeskRecord) (r : Reply) (idle : IsIdle pass (plain_of old)) (turn : IsTurn old new pass event.Take no_pie r) where
  took_this : (b : ℕ) → first_sealed (plain_of old) ≡ Some b → r ≡ reply.TakenBatch b → plain_of new ≡ with_taken pass (plain_of old) b → TookBatch pass old new (record { batch = b; tasks = tasks_at old b })
  took_this b is r_is moved =
      let sealed = first_is_sealed (plain_of old) b is in
      record {
        works = busy_from pass old new (entry_of pass event.Take no_pie r) (ap is_nothing r_is) (one_event old new pass event.Take r refl (ap is_of_holder r_is) turn);
        holds = subst (λ (x : PlainDesk). HoldsAlone pass x b (pies_in (tasks_at old b))) (sym moved)
            (subst (HoldsAlone pass (with_taken pass (plain_of old) b) b) (sym (pies_of_batch old.jobs old.batches b)) (holds_taken pass (plain_of old) b (plain_of old).registered idle sealed));
        less = subst (λ (x : PlainDesk). remaining x < remaining (plain_of old)) (sym moved) (less_taken (plain_of old) b (phase.Taken pass) (plain_of old).registered refl sealed);
      }

  took_at : (o : Option ℕ) → first_sealed (plain_of old) ≡ o → r ≡ take_reply o → plain_of new ≡ after_take (plain_of old) pass o → (parcel : ParcelRecord) → handed_out old r ≡ Some parcel → TookBatch pass old new parcel
  took_at None is r_is same parcel out = absurd (let x : ◌≡◌ {A = Option ParcelRecord} None (Some parcel) = ap (handed_out old) (sym r_is) ∙ out in cc)
  took_at (Some b) is r_is moved parcel out =
      let given : ◌≡◌ {A = Option ParcelRecord} (Some (record { batch = b; tasks = tasks_at old b })) (Some parcel) = ap (handed_out old) (sym r_is) ∙ out in
      subst (TookBatch pass old new) (ap (λ (o : Option ParcelRecord). unwrap_or o parcel) given) (took_this b is r_is moved)

  none_at : (o : Option ℕ) → first_sealed (plain_of old) ≡ o → r ≡ take_reply o → plain_of new ≡ after_take (plain_of old) pass o → handed_out old r ≡ None → TookNone pass old new
  none_at None is r_is same out = record {
    works = subst (λ (x : Reply). Works pass (Are (entry_of pass event.Take no_pie x ∷ [])) old new) r_is (one_event old new pass event.Take r refl (ap is_of_holder r_is) turn);
    same = same;
    none = is;
  }
  none_at (Some b) is r_is moved out = absurd (let x : ◌≡◌ {A = Option ParcelRecord} (Some (record { batch = b; tasks = tasks_at old b })) None = ap (handed_out old) (sym r_is) ∙ out in cc)

  pub took_batch : (parcel : ParcelRecord) → handed_out old r ≡ Some parcel → TookBatch pass old new parcel
  unfolding reply_to after_event
  took_batch parcel out = took_at (first_sealed (plain_of old)) refl turn.replies turn.becomes parcel out

  pub took_none : handed_out old r ≡ None → TookNone pass old new
  unfolding reply_to after_event
  took_none out = none_at (first_sealed (plain_of old)) refl turn.replies turn.becomes out
