-- How the rounds of a worker at a shared desk end, one after another.
use Rattle.std.proofs.Common.{◌≡◌, ℕ, Bool, true, false, List, [], ◌∷◌, ◌++◌, refl, sym, ap, ◌∙◌, subst}
use Rattle.std.specs.Prelude.{Some, None}
use Rattle.cairo_model.specs.Certificate.Records.{CertRecord}
use Rattle.cairo_model.specs.declared.end.End.{End}
use Rattle.cairo_model.specs.declared.end.End.TheVariants as end
use Rattle.boot_program.specs.Batch.Parcels.{ParcelRecord}
use Rattle.boot_program.specs.declared.run_fault.RunFault.{RunFault}
use Rattle.desk_core.specs.Desks.{phase_at}
use Rattle.desk_core.specs.Journals.{no_pie}
use Rattle.desk_core.specs.Registrations.{pies_in}
use Rattle.desk_core.specs.Stays.{pies_at}
use Rattle.desk_core.specs.Turns.{entry_of}
use Rattle.desk_core.specs.declared.entry.FullEntry.{FullEntry}
use Rattle.desk_core.specs.declared.event.Event.TheVariants as event
use Rattle.desk_core.specs.declared.phase.Phase.TheVariants as phase
use Rattle.desk_core.specs.declared.reply.Reply.{Reply}
use Rattle.desk_core.specs.declared.reply.Reply.TheVariants as reply
use Rattle.session_desk.specs.SeenDesks.{IsIdlePass, seen_desk}
use Rattle.turn_lock.specs.Passes.{Token}
use Rattle.batch_workers.specs.SharedWorks.{EndOpen, EndOver, PassWorks, WorkerDone, is_over}
use Rattle.batch_workers.specs.Working.Rounds.{Are}
use Rattle.batch_workers.specs.Working.SharedRounds.{IsItsParcel, PassBack, PassBatch, PassRegister, PassRound, PassSealing, PassTook, PassUncertified, shared_rejecting}
use Rattle.batch_workers.specs.Works.{EndBusy, EndIdle, IsFaulty, IsNotRejected, IsRejected, ends_with, idle_turns, is_nothing}
use Rattle.batch_workers.specs.declared.shared_round.SharedRound.{SharedRound}
use Rattle.batch_workers.specs.declared.shared_round.SharedRound.TheVariants as round
use Rattle.batch_workers.specs.declared.work_end.WorkEnd.{WorkEnd}
use Rattle.batch_workers.specs.declared.work_end.WorkEnd.TheVariants as work
use Rattle.batch_workers.proofs.Endings.{busy_on}
use Rattle.batch_workers.proofs.PassEvents.{no_more, works_by, works_then}

pub busy_both : (a b c : Token FullEntry) → PassWorks EndBusy a b → PassWorks EndBusy b c → PassWorks EndBusy a c
busy_both a b c x y = works_then a b c EndBusy EndBusy EndBusy busy_on x y

-- ---- what is known of the last entry

over_weaker : (r : Reply) → is_nothing r ≡ false → is_over r ≡ false
over_weaker (reply.NothingWaiting closed) e = absurd (cc)
over_weaker (reply.Admitted k) e = refl
over_weaker (reply.Refused k) e = refl
over_weaker reply.Closed e = refl
over_weaker (reply.Quota k n m) e = refl
over_weaker (reply.SealedBatch k) e = refl
over_weaker (reply.TakenBatch k) e = refl
over_weaker reply.NothingSealed e = refl
over_weaker reply.Registered e = refl
over_weaker (reply.NotTaken p) e = refl
over_weaker (reply.Stranger k) e = refl
over_weaker reply.Returned e = refl
over_weaker reply.Yes e = refl
over_weaker reply.No e = refl
over_weaker (reply.IsAt p) e = refl

pub busy_is_open : (es : List FullEntry) → EndBusy es → EndOpen es
busy_is_open [] x = refl
busy_is_open (e ∷ []) x = over_weaker e.entry.reply x
busy_is_open (e ∷ f ∷ es) x = busy_is_open (f ∷ es) x

-- the pass of a worker that waits, before its first turn
pub open_start : (p : Token FullEntry) → PassWorks EndOpen p p
open_start p = works_by p p EndBusy EndOpen busy_is_open (no_more p)

-- ---- a batch that got no certificate

pub after_refusal : (old new : Token FullEntry) (b : ℕ) (t : Bool) (fault : RunFault) (n : End RunFault) (o : SharedRound) → n ≡ end.Refused fault → PassBack b old new t → o ≡ shared_rejecting t b fault → PassUncertified b n old new o
after_refusal old new b true fault n o is x o_is = subst (PassUncertified b n old new) (sym o_is) (x, (refl, is))
after_refusal old new b false fault n o is x o_is = subst (PassUncertified b n old new) (sym o_is) x.0

-- the batch of this parcel
module _ (H : Type 0) (M : ParcelRecord → CertRecord → Type 0) (v p : ParcelRecord) (same : v ≡ p) (old new : Token FullEntry) (its : IsItsParcel old p) where
  rejects : (b : ℕ) (fault : RunFault) → b ≡ v.batch → PassBack v.batch old new true → IsFaulty H M v fault → IsRejected H M (seen_desk new) b fault
  rejects b fault is x faulty =
      let mine : pies_in v.tasks ≡ pies_at (seen_desk old) v.batch = subst (IsItsParcel old) (sym same) its in
      record {
        parcel = v;
        number = sym is;
        pies = subst (λ (k : ℕ). pies_in v.tasks ≡ pies_at (seen_desk new) k) (sym is) (mine ∙ sym x.1.1.0);
        faulty = faulty;
        sealed = subst (λ (k : ℕ). phase_at (seen_desk new) k ≡ phase.Sealed) (sym is) x.1.1.1;
      }

  by_end : (n : End RunFault) (o : SharedRound) → PassUncertified v.batch n old new o → ((fault : RunFault) → n ≡ end.Refused fault → IsFaulty H M v fault) → PassBatch H M old new o
  by_end n round.Went x f = absurd x
  by_end n (round.Idle closed) x f = absurd x
  by_end n (round.Ended work.Drained) x f = absurd x
  by_end n (round.Ended work.OutOfMemory) x f = x
  by_end n (round.Ended (work.Rejected b fault)) x f = (x.0.0, (x.0.1.0, rejects b fault x.1.0 x.0 (f fault x.1.1)))

  pub not_certified : (n : End RunFault) (o : SharedRound) → PassUncertified v.batch n old new o → ((fault : RunFault) → n ≡ end.Refused fault → IsFaulty H M p fault) → PassBatch H M old new o
  not_certified n o x f = by_end n o x (λ fault is. subst (λ (m : ParcelRecord). IsFaulty H M m fault) (sym same) (f fault is))

-- a batch that was registered, or given back where memory was wanted
pub by_registering : (H : Type 0) (M : ParcelRecord → CertRecord → Type 0) (old new : Token FullEntry) (o : SharedRound) → PassRegister old new o → PassBatch H M old new o
by_registering H M old new round.Went x = x
by_registering H M old new (round.Idle closed) x = x
by_registering H M old new (round.Ended work.Drained) x = x
by_registering H M old new (round.Ended work.OutOfMemory) x = x
by_registering H M old new (round.Ended (work.Rejected b fault)) x = absurd x

-- ---- a round

pub by_batch : (H : Type 0) (M : ParcelRecord → CertRecord → Type 0) (old mid new : Token FullEntry) (parcel : ParcelRecord) (o : SharedRound) → PassTook old mid (Some parcel) → PassBatch H M mid new o → PassRound H M old new o
by_batch H M old mid new parcel round.Went took x = (busy_both old mid new took.0 x.0, x.1)
by_batch H M old mid new parcel (round.Idle closed) took x = absurd x
by_batch H M old mid new parcel (round.Ended work.Drained) took x = absurd x
by_batch H M old mid new parcel (round.Ended work.OutOfMemory) took x = busy_both old mid new took.0 x
by_batch H M old mid new parcel (round.Ended (work.Rejected b fault)) took x = (busy_both old mid new took.0 x.0, x.1)

-- a taking that found no batch isn't that no job waits
none_busy : (old mid : Token FullEntry) → PassTook old mid None → PassWorks EndBusy old mid
none_busy old mid took = works_by old mid (Are (entry_of old.number event.Take no_pie reply.NothingSealed ∷ [])) EndBusy (λ es p. subst EndBusy (sym p) refl) took.0

pub by_sealing : (H : Type 0) (M : ParcelRecord → CertRecord → Type 0) (old mid new : Token FullEntry) (o : SharedRound) → PassTook old mid None → PassSealing mid new o → PassRound H M old new o
by_sealing H M old mid new round.Went took x = (busy_both old mid new (none_busy old mid took) x.0, x.1)
by_sealing H M old mid new (round.Idle closed) took x = (
  works_then old mid new (Are (entry_of old.number event.Take no_pie reply.NothingSealed ∷ [])) (Are (entry_of mid.number event.Seal no_pie (reply.NothingWaiting closed) ∷ [])) (Are (idle_turns old.number closed))
      (λ xs ys p q. ap (λ (zs : List FullEntry). zs ++ ys) p
      ∙ ap (λ (zs : List FullEntry). entry_of old.number event.Take no_pie reply.NothingSealed ∷ zs) (q ∙ ap (λ (n : ℕ). entry_of n event.Seal no_pie (reply.NothingWaiting closed) ∷ []) took.0.number)) took.0 x.0,
  x.1,
)
by_sealing H M old mid new (round.Ended work.Drained) took x = absurd x
by_sealing H M old mid new (round.Ended work.OutOfMemory) took x = busy_both old mid new (none_busy old mid took) x
by_sealing H M old mid new (round.Ended (work.Rejected b fault)) took x = absurd x

-- ---- rounds one after another

pub open_on : (xs ys : List FullEntry) → EndOpen xs → EndOpen ys → EndOpen (xs ++ ys)
open_on [] ys x y = y
open_on (e ∷ []) [] x y = x
open_on (e ∷ []) (f ∷ ys) x y = y
open_on (e ∷ f ∷ xs) ys x y = open_on (f ∷ xs) ys x y

pub open_goes : (xs ys : List FullEntry) → EndOpen xs → EndBusy ys → EndOpen (xs ++ ys)
open_goes xs ys x y = open_on xs ys x (busy_is_open ys y)

pub open_waits : (n : ℕ) (xs ys : List FullEntry) → EndOpen xs → Are (idle_turns n false) ys → EndOpen (xs ++ ys)
open_waits n xs ys x y = open_on xs ys x (ap (ends_with is_over) y)

module _ (H : Type 0) (M : ParcelRecord → CertRecord → Type 0) (old mid new : Token FullEntry) where
  abbrev Ahead : (List FullEntry → Type 0) → Type 0
  Ahead G = PassWorks G old mid × IsIdlePass mid

  -- a round that went on
  pub goes_on : (G : List FullEntry → Type 0) → ((xs ys : List FullEntry) → G xs → EndBusy ys → G (xs ++ ys)) → Ahead G → PassRound H M mid new round.Went → PassWorks G old new × IsIdlePass new
  goes_on G both x y = (works_then old mid new G EndBusy G both x.0 y.0, y.1)

  -- a round that found nothing to do, of a worker that never waits
  pub idle_drained : (closed : Bool) → Ahead EndBusy → PassRound H M mid new (round.Idle closed) → WorkerDone (EndIdle old.number) EndBusy H M old new work.Drained
  idle_drained closed x y = (
    works_then old mid new EndBusy (Are (idle_turns mid.number closed)) (EndIdle old.number)
        (λ xs ys p q. record { before = xs; closed = closed; are = ap (λ (zs : List FullEntry). xs ++ zs) (q ∙ ap (λ (n : ℕ). idle_turns n closed) x.0.number) }) x.0 y.0,
    y.1,
  )

  -- and of one that waits, at a closed desk and at an open one
  pub over_drained : Ahead EndOpen → PassRound H M mid new (round.Idle true) → WorkerDone (EndOver old.number) EndOpen H M old new work.Drained
  over_drained x y = (
    works_then old mid new EndOpen (Are (idle_turns mid.number true)) (EndOver old.number)
        (λ xs ys p q. record { before = xs; are = ap (λ (zs : List FullEntry). xs ++ zs) (q ∙ ap (λ (n : ℕ). idle_turns n true) x.0.number) }) x.0 y.0,
    y.1,
  )

  pub waits_on : Ahead EndOpen → PassRound H M mid new (round.Idle false) → PassWorks EndOpen old new × IsIdlePass new
  waits_on x y = (works_then old mid new EndOpen (Are (idle_turns mid.number false)) EndOpen (open_waits mid.number) x.0 y.0, y.1)

  -- a round that ended the work
  pub ends_so : (D G : List FullEntry → Type 0) (how : WorkEnd) → ((xs ys : List FullEntry) → G xs → EndBusy ys → G (xs ++ ys)) → Ahead G → PassRound H M mid new (round.Ended how) → WorkerDone D G H M old new how
  ends_so D G work.Drained both x y = absurd y
  ends_so D G work.OutOfMemory both x y = works_then old mid new G EndBusy G both x.0 y
  ends_so D G (work.Rejected b fault) both x y = (works_then old mid new G EndBusy G both x.0 y.0, y.1)

  -- by an honest maker no batch is rejected
  pub honest_ends : (how : WorkEnd) → H → PassRound H M mid new (round.Ended how) → IsNotRejected how
  honest_ends work.Drained honest y = tt
  honest_ends work.OutOfMemory honest y = tt
  honest_ends (work.Rejected b fault) honest y = y.1.1.faulty.not_honest honest
