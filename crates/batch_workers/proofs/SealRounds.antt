-- The round in which a worker seals.
use Rattle.std.proofs.Common.{◌≡◌, ℕ, ◌+◌, ◌<◌, ◌==◌, Bool, true, false, cond, [], ◌∷◌, ◌++◌, length, refl, sym, ap, subst, arith}
use Rattle.std.specs.Prelude.{None, sum_by}
use Rattle.std.proofs.lemmas.Bool.{eqb-true}
use Rattle.desk_core.specs.DeskRecords.{DeskRecord, plain_of}
use Rattle.desk_core.specs.Desks.{PlainBatch, PlainDesk, first_sealed, waiting_jobs}
use Rattle.desk_core.specs.GoodDesks.{IsGoodDesk}
use Rattle.desk_core.specs.Journals.{no_pie}
use Rattle.desk_core.specs.Next.{after_event, next_batch, reply_to}
use Rattle.desk_core.specs.Turns.{IsTurn, entry_of}
use Rattle.desk_core.specs.declared.event.Event.TheVariants as event
use Rattle.desk_core.specs.declared.phase.Phase.TheVariants as phase
use Rattle.desk_core.specs.declared.reply.Reply.{Reply}
use Rattle.desk_core.specs.declared.reply.Reply.TheVariants as reply
use Rattle.desk_core.proofs.ListFacts.{sum_one}
use Rattle.desk_core.proofs.SoundLemmas.{some_waiting, sound_sealed}
use Rattle.desk_core.proofs.Turns.{all_small}
use Rattle.batch_workers.specs.declared.round.Round.{Round}
use Rattle.batch_workers.specs.declared.round.Round.TheVariants as round
use Rattle.batch_workers.specs.Works.{AllRegistered, IsIdle, Works, is_nothing, is_of_holder}
use Rattle.batch_workers.specs.Working.Rounds.{Are, SealDone, remaining, sealing_round}
use Rattle.batch_workers.proofs.Endings.{busy_from}
use Rattle.batch_workers.proofs.Events.{one_event}
use Rattle.batch_workers.proofs.Measures.{less_sealed}
use Rattle.batch_workers.proofs.Phases.{idle_by, phase_more}
use Rattle.batch_workers.proofs.Registering.{all_registered}

abbrev with_batch : PlainDesk → PlainDesk
with_batch d = record d { batches = d.batches ++ next_batch d ∷ [] }

module _ (pass : ℕ) (old new : DeskRecord) (r : Reply) (good : IsGoodDesk old) (idle : IsIdle pass (plain_of old)) (none : first_sealed (plain_of old) ≡ None) (turn : IsTurn old new pass event.Seal no_pie r) where
  none_waits : (length (waiting_jobs (plain_of old)) == 0) ≡ true → r ≡ reply.NothingWaiting old.closed → plain_of new ≡ plain_of old → SealDone pass old new round.Idle
  none_waits is r_is same = (
    old.closed,
    (
      subst (λ (x : Reply). Works pass (Are (entry_of pass event.Seal no_pie x ∷ [])) old new) r_is (one_event old new pass event.Seal r refl (ap is_of_holder r_is) turn),
      (
        subst (IsIdle pass) (sym same) idle,
        λ alone. subst AllRegistered (sym same) (all_registered pass (plain_of old) good.sound none (eqb-true (length (waiting_jobs (plain_of old))) 0 is) idle alone),
      ),
    ),
  )

  less : (length (waiting_jobs (plain_of old)) == 0) ≡ false → remaining (with_batch (plain_of old)) < remaining (plain_of old)
  less is =
      let total : sum_by (λ (y : PlainBatch). y.count) ((plain_of old).batches ++ next_batch (plain_of old) ∷ []) ≡ sum_by (λ (y : PlainBatch). y.count) (plain_of old).batches + (next_batch (plain_of old)).count =
      sum_one (λ (y : PlainBatch). y.count) (plain_of old).batches (next_batch (plain_of old)) in
      let small = all_small old.jobs good.accepted in
      less_sealed (plain_of old) (next_batch (plain_of old)) refl (some_waiting (plain_of old) good.sound small is)
      (omega (arith, (sound_sealed (plain_of old) good.sound small is).inside, total)) total

  some_wait : (length (waiting_jobs (plain_of old)) == 0) ≡ false → r ≡ reply.SealedBatch (length (plain_of old).batches) → plain_of new ≡ with_batch (plain_of old) → SealDone pass old new round.Went
  some_wait is r_is grows = (
    busy_from pass old new (entry_of pass event.Seal no_pie r) (ap is_nothing r_is) (one_event old new pass event.Seal r refl (ap is_of_holder r_is) turn),
    (
      subst (IsIdle pass) (sym grows) (idle_by pass phase.Sealed (λ q. cc) (plain_of old) (with_batch (plain_of old)) (λ k q x. phase_more (plain_of old).batches (next_batch (plain_of old)) k q x) idle),
      subst (λ (x : PlainDesk). remaining x < remaining (plain_of old)) (sym grows) (less is),
    ),
  )

  by_waiting : (t : Bool) → (length (waiting_jobs (plain_of old)) == 0) ≡ t → r ≡ cond t (reply.NothingWaiting old.closed) (reply.SealedBatch (length (plain_of old).batches))
      → plain_of new ≡ cond t (plain_of old) (with_batch (plain_of old)) → SealDone pass old new (sealing_round (is_nothing r))
  by_waiting true is r_is same = subst (λ (t : Bool). SealDone pass old new (sealing_round t)) (sym (ap is_nothing r_is)) (none_waits is r_is same)
  by_waiting false is r_is grows = subst (λ (t : Bool). SealDone pass old new (sealing_round t)) (sym (ap is_nothing r_is)) (some_wait is r_is grows)

  pub seal_done : SealDone pass old new (sealing_round (is_nothing r))
  unfolding reply_to after_event
  seal_done = by_waiting (length (waiting_jobs (plain_of old)) == 0) refl turn.replies turn.becomes

  pub seal_ends : (o : Round) → o ≡ sealing_round (is_nothing r) → SealDone pass old new o
  seal_ends o is = subst (SealDone pass old new) (sym is) seal_done
