-- The turns in which a worker's pass takes and seals.
use Rattle.std.proofs.Common.{◌≡◌, ℕ, ◌==◌, Bool, true, false, cond, List, [], ◌∷◌, ◌++◌, length, refl, sym, ap, ◌∙◌, subst}
use Rattle.std.specs.Prelude.{Option, Some, None, Ok, Err}
use Rattle.std.specs.declared.alloc.AllocError.{AllocError}
use Rattle.std.proofs.lemmas.List.{map-append}
use Rattle.boot_program.specs.Batch.Parcels.{ParcelRecord}
use Rattle.desk_core.specs.DeskRecords.{DeskRecord, journal_of, plain_of, tasks_at}
use Rattle.desk_core.specs.Desks.{PlainDesk, first_sealed, phase_at, waiting_jobs}
use Rattle.desk_core.specs.Hands.{entries_of_pass, in_hand}
use Rattle.desk_core.specs.Journals.{no_pie}
use Rattle.desk_core.specs.Next.{reply_to, take_reply}
use Rattle.desk_core.specs.Stays.{pies_at, take_entry}
use Rattle.desk_core.specs.Turns.{IsTurn, handed_out}
use Rattle.desk_core.specs.declared.entry.FullEntry.{FullEntry}
use Rattle.desk_core.specs.declared.event.Event.TheVariants as event
use Rattle.desk_core.specs.declared.reply.Reply.{Reply}
use Rattle.desk_core.specs.declared.reply.Reply.TheVariants as reply
use Rattle.desk_core.proofs.StaysLemmas.{takes_law}
use Rattle.session_desk.specs.PassTurns.{EventTurn, PassTurn, TakeTurn}
use Rattle.session_desk.specs.SeenDesks.{IsIdlePass, seen_desk}
use Rattle.session_desk.specs.Sessions.{HasOneMore, notes_in, own_entry}
use Rattle.session_desk.proofs.Knowing.{own}
use Rattle.session_desk.proofs.Mine.{has_none_more, has_one_more}
use Rattle.turn_lock.specs.Passes.{Token}
use Rattle.batch_workers.specs.SharedWorks.{PassWorks}
use Rattle.batch_workers.specs.Working.SharedRounds.{HasBatch, PassSealing, PassTaking, PassTook, shared_sealing}
use Rattle.batch_workers.specs.Works.{EndBusy}
use Rattle.batch_workers.specs.declared.shared_round.SharedRound.{SharedRound}
use Rattle.batch_workers.proofs.PassEvents.{alone_taken, idle_none, idle_sealed, none_done, one_busy, one_done, seen_is}
use Rattle.batch_workers.proofs.Taking.{pies_of_batch}

-- ---- taking

module _ (old new : Token FullEntry) (before after : DeskRecord) (t : PassTurn old new before after) (idle : IsIdlePass old) where
  taken_entry : (b : ℕ) → HasOneMore event.Take no_pie old new (reply.TakenBatch b) → entries_of_pass old.number (journal_of before) ++ take_entry old.number b ∷ [] ≡ notes_in new.mine
  taken_entry b one =
      ap (λ (es : List FullEntry). es ++ take_entry old.number b ∷ []) (own old new before after t)
      ∙ (sym (map-append (λ (x : ℕ × FullEntry). x.1) old.mine (own_entry old.number event.Take no_pie (reply.TakenBatch b) ∷ [])) ∙ ap notes_in (sym one))

  took : (b : ℕ) (turn : IsTurn before after old.number event.Take no_pie (reply.TakenBatch b)) → HasOneMore event.Take no_pie old new (reply.TakenBatch b)
      → HasBatch new b × (pies_at (seen_desk new) b ≡ pies_at (plain_of before) b)
  took b turn one =
      let h = takes_law (journal_of before) (plain_of before) t.good_before.legal old.number b (sym turn.replies) in
      let seen = seen_is old new before after t event.Take (reply.TakenBatch b) turn in (
        record {
          has = ap (in_hand b false) (sym (taken_entry b one)) ∙ h.has;
          alone = alone_taken old new b one idle;
          there = λ none. h.there (ap (λ (d : PlainDesk). phase_at d b) (sym seen) ∙ none);
        },
        ap (λ (d : PlainDesk). pies_at d b) seen ∙ h.are,
      )

  took_this : (b : ℕ) → IsTurn before after old.number event.Take no_pie (reply.TakenBatch b) → PassTook old new (Some (record { batch = b; tasks = tasks_at before b }))
  took_this b turn =
      let one = has_one_more old new before after t event.Take no_pie (reply.TakenBatch b) turn in
      let h = took b turn one in
      (one_busy old new before after t event.Take (reply.TakenBatch b) refl refl refl one, (h.0, pies_of_batch before.jobs before.batches b ∙ sym h.1))

  took_none : IsTurn before after old.number event.Take no_pie reply.NothingSealed → PassTook old new None
  took_none turn =
      let one = has_one_more old new before after t event.Take no_pie reply.NothingSealed turn in
      (one_done old new before after t event.Take reply.NothingSealed refl refl one, idle_none old new one idle)

  by_found : (o : Option ℕ) (r : Reply) (parcel : Option ParcelRecord) → r ≡ take_reply o → IsTurn before after old.number event.Take no_pie r → parcel ≡ handed_out before r → PassTook old new parcel
  by_found None r parcel is turn out =
      subst (PassTook old new) (sym (out ∙ ap (handed_out before) is)) (took_none (subst (λ (x : Reply). IsTurn before after old.number event.Take no_pie x) is turn))
  by_found (Some b) r parcel is turn out =
      subst (PassTook old new) (sym (out ∙ ap (handed_out before) is)) (took_this b (subst (λ (x : Reply). IsTurn before after old.number event.Take no_pie x) is turn))

  takes : (r : Reply) (parcel : Option ParcelRecord) → IsTurn before after old.number event.Take no_pie r → parcel ≡ handed_out before r → PassTook old new parcel
  unfolding reply_to
  takes r parcel turn out = by_found (first_sealed (plain_of before)) r parcel turn.replies turn out

pub take_ok : (old new : Token FullEntry) (r : Reply × Option ParcelRecord) → IsIdlePass old → TakeTurn old new (Ok r) → PassTook old new r.1
take_ok old new r idle x = takes old new x.before x.after x.turn idle r.0 r.1 x.done.0 x.done.1

pub take_err : (old new : Token FullEntry) (e : AllocError) → TakeTurn old new (Err e) → PassTaking old new (Err e)
take_err old new e x = none_done old new x.before x.after x.turn (has_none_more old new x.before x.after x.turn x.done)

-- ---- sealing

module _ (old new : Token FullEntry) (before after : DeskRecord) (t : PassTurn old new before after) (idle : IsIdlePass old) where
  none_waits : (closed : Bool) → HasOneMore event.Seal no_pie old new (reply.NothingWaiting closed) → PassSealing old new (shared_sealing (reply.NothingWaiting closed))
  none_waits closed one = (one_done old new before after t event.Seal (reply.NothingWaiting closed) refl refl one, idle_sealed old new (reply.NothingWaiting closed) one idle)

  some_wait : (b : ℕ) → HasOneMore event.Seal no_pie old new (reply.SealedBatch b) → PassSealing old new (shared_sealing (reply.SealedBatch b))
  some_wait b one = (one_busy old new before after t event.Seal (reply.SealedBatch b) refl refl refl one, idle_sealed old new (reply.SealedBatch b) one idle)

  by_waiting : (c closed : Bool) (b : ℕ) (r : Reply) → r ≡ cond c (reply.NothingWaiting closed) (reply.SealedBatch b) → HasOneMore event.Seal no_pie old new r → PassSealing old new (shared_sealing r)
  by_waiting true closed b r is one =
      subst (λ (x : Reply). PassSealing old new (shared_sealing x)) (sym is) (none_waits closed (subst (HasOneMore event.Seal no_pie old new) is one))
  by_waiting false closed b r is one = subst (λ (x : Reply). PassSealing old new (shared_sealing x)) (sym is) (some_wait b (subst (HasOneMore event.Seal no_pie old new) is one))

  seals : (r : Reply) → IsTurn before after old.number event.Seal no_pie r → PassSealing old new (shared_sealing r)
  unfolding reply_to
  seals r turn =
      by_waiting (length (waiting_jobs (plain_of before)) == 0) before.closed (length (plain_of before).batches) r turn.replies (has_one_more old new before after t event.Seal no_pie r turn)

pub seal_ok : (old new : Token FullEntry) (r : Reply) (o : SharedRound) → IsIdlePass old → EventTurn event.Seal no_pie old new (Ok r) → o ≡ shared_sealing r → PassSealing old new o
seal_ok old new r o idle x is = subst (PassSealing old new) (sym is) (seals old new x.before x.after x.turn idle r x.done)

-- memory was wanted
pub seal_err : (old new : Token FullEntry) (e : AllocError) → EventTurn event.Seal no_pie old new (Err e) → PassWorks EndBusy old new
seal_err old new e x = none_done old new x.before x.after x.turn (has_none_more old new x.before x.after x.turn x.done)
