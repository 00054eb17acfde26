-- How the parts of a round make the round, and rounds the work.
use Rattle.std.proofs.Common.{◌≡◌, ℕ, ◌<◌, Bool, true, false, List, refl, sym, subst}
use Rattle.cairo_model.specs.Certificate.Records.{CertRecord}
use Rattle.boot_program.specs.Batch.Parcels.{ParcelRecord}
use Rattle.cairo_model.specs.declared.end.End.{End}
use Rattle.cairo_model.specs.declared.end.End.TheVariants as end
use Rattle.cairo_model.specs.Pie.Records.{PieRecord}
use Rattle.desk_core.specs.GoodDesks.{IsGoodDesk}
use Rattle.desk_core.specs.Turns.{turned}
use Rattle.boot_program.specs.declared.run_fault.RunFault.{RunFault}
use Rattle.desk_core.specs.DeskRecords.{DeskRecord, plain_of}
use Rattle.desk_core.specs.Desks.{PlainDesk, phase_at}
use Rattle.desk_core.specs.declared.phase.Phase.TheVariants as phase
use Rattle.desk_core.specs.Journals.{no_pie}
use Rattle.desk_core.specs.Turns.{entry_of}
use Rattle.desk_core.specs.declared.event.Event.TheVariants as event
use Rattle.desk_core.specs.declared.reply.Reply.TheVariants as reply
use Rattle.desk_core.specs.Registrations.{pies_in}
use Rattle.desk_core.specs.Stays.{pies_at}
use Rattle.batch_workers.specs.declared.round.Round.{Round}
use Rattle.batch_workers.specs.declared.round.Round.TheVariants as round
use Rattle.batch_workers.specs.declared.work_end.WorkEnd.{WorkEnd}
use Rattle.batch_workers.specs.declared.work_end.WorkEnd.TheVariants as work
use Rattle.batch_workers.specs.Works.{EndBusy, IsFaulty, IsRejected, WorkDone, Works, WorksAlone}
use Rattle.batch_workers.specs.Working.Rounds.{BatchDone, HandedBack, HoldsAlone, NotCertified, RegisterDone, RoundDone, SealDone, rejecting_round, remaining}
use Rattle.batch_workers.proofs.Returning.{back_works, wanted}
use Rattle.batch_workers.proofs.Endings.{busy_from, busy_then, idle_from, idle_then, two_then}
use Rattle.batch_workers.proofs.TakeRounds.{TookBatch, TookNone}

-- ---- a batch in hand that isn't registered

-- memory was wanted, and the batch was given back or not
pub stopped : (pass b : ℕ) (pies : List PieRecord) (a c e : DeskRecord) (t : Bool) → HoldsAlone pass (plain_of a) b pies → c ≡ turned a
    → ((ps : List PieRecord) → HoldsAlone pass (plain_of c) b ps → HandedBack pass b ps c e t) → Works pass EndBusy a e
stopped pass b pies a c e t h is back =
    busy_then pass a c e (wanted pass a c is) (back_works pass b pies c e t (back pies (subst (λ (d : DeskRecord). HoldsAlone pass (plain_of d) b pies) (sym is) h)))

pub done_as : (pass : ℕ) (a e d : DeskRecord) (o q : Round) → d ≡ e → o ≡ q → RegisterDone pass a e q → RegisterDone pass a d o
done_as pass a e d o q d_is o_is x = subst (λ (z : Round). RegisterDone pass a d z) (sym o_is) (subst (λ (z : DeskRecord). RegisterDone pass a z q) (sym d_is) x)

pub good_as : (e d : DeskRecord) → d ≡ e → IsGoodDesk e → IsGoodDesk d
good_as e d is good = subst IsGoodDesk (sym is) good

pub rejected_so : (pass b : ℕ) (pies : List PieRecord) (a e : DeskRecord) (t : Bool) (fault : RunFault) (o : Round) → HandedBack pass b pies a e t → o ≡ rejecting_round t b fault → NotCertified pass b pies (end.Refused fault) a e o
rejected_so pass b pies a e true fault o x is = subst (NotCertified pass b pies (end.Refused fault) a e) (sym is) (x, (refl, refl))
rejected_so pass b pies a e false fault o x is = subst (NotCertified pass b pies (end.Refused fault) a e) (sym is) x.0

pub refused_as : (pass b : ℕ) (pies : List PieRecord) (a e : DeskRecord) (n m : End RunFault) (o : Round) → n ≡ m → NotCertified pass b pies m a e o → NotCertified pass b pies n a e o
refused_as pass b pies a e n m o is x = subst (λ (z : End RunFault). NotCertified pass b pies z a e o) (sym is) x

-- the batch of this parcel
module _ (pass : ℕ) (H : Type 0) (G : ParcelRecord → CertRecord → Type 0) (v p : ParcelRecord) (same : v ≡ p) (a e : DeskRecord) (held : HoldsAlone pass (plain_of a) p.batch (pies_in p.tasks)) where
  pub holds_seen : HoldsAlone pass (plain_of a) v.batch (pies_in v.tasks)
  holds_seen = subst (λ (m : ParcelRecord). HoldsAlone pass (plain_of a) m.batch (pies_in m.tasks)) (sym same) held

  rejects : (b : ℕ) (fault : RunFault) → b ≡ v.batch → HandedBack pass v.batch (pies_in v.tasks) a e true → IsFaulty H G v fault → IsRejected H G (plain_of e) b fault
  rejects b fault is x faulty = record {
    parcel = v;
    number = sym is;
    pies = subst (λ (k : ℕ). pies_in v.tasks ≡ pies_at (plain_of e) k) (sym is) (sym x.1.1.1);
    faulty = faulty;
    sealed = subst (λ (k : ℕ). phase_at (plain_of e) k ≡ phase.Sealed) (sym is) x.1.1.0;
  }

  by_end : (n : End RunFault) (o : Round) → NotCertified pass v.batch (pies_in v.tasks) n a e o → ((fault : RunFault) → n ≡ end.Refused fault → IsFaulty H G v fault) → BatchDone pass H G a e o
  by_end n round.Went x f = absurd x
  by_end n round.Idle x f = x
  by_end n (round.Ended work.Drained) x f = x
  by_end n (round.Ended work.OutOfMemory) x f = x
  by_end n (round.Ended (work.Rejected b fault)) x f = (x.0.0, (x.0.1.0, rejects b fault x.1.0 x.0 (f fault x.1.1)))

  pub uncertified : (n : End RunFault) (o : Round) → ((pies : List PieRecord) → HoldsAlone pass (plain_of a) v.batch pies → NotCertified pass v.batch pies n a e o) → ((fault : RunFault) → n ≡ end.Refused fault → IsFaulty H G p fault) → BatchDone pass H G a e o
  uncertified n o x f = by_end n o (x (pies_in v.tasks) holds_seen) (λ fault is. subst (λ (m : ParcelRecord). IsFaulty H G m fault) (sym same) (f fault is))

-- ---- rounds

pub by_batch : (pass : ℕ) (H : Type 0) (G : ParcelRecord → CertRecord → Type 0) (a b c : DeskRecord) (parcel : ParcelRecord) (o : Round) → TookBatch pass a b parcel → BatchDone pass H G b c o → RoundDone pass H G a c o
by_batch pass H G a b c parcel round.Went t x = (busy_then pass a b c t.works x.0, (x.1.0, subst (λ (n : ℕ). n < remaining (plain_of a)) (sym x.1.1) t.less))
by_batch pass H G a b c parcel round.Idle t x = absurd x
by_batch pass H G a b c parcel (round.Ended work.Drained) t x = x
by_batch pass H G a b c parcel (round.Ended work.OutOfMemory) t x = busy_then pass a b c t.works x
by_batch pass H G a b c parcel (round.Ended (work.Rejected n fault)) t x = (busy_then pass a b c t.works x.0, x.1)

-- the turn in which no batch was sealed
busy_take : (pass : ℕ) (a b : DeskRecord) → TookNone pass a b → Works pass EndBusy a b
busy_take pass a b t = busy_from pass a b (entry_of pass event.Take no_pie reply.NothingSealed) refl t.works

pub by_seal : (pass : ℕ) (H : Type 0) (G : ParcelRecord → CertRecord → Type 0) (a b c : DeskRecord) (o : Round) → TookNone pass a b → SealDone pass b c o → RoundDone pass H G a c o
by_seal pass H G a b c round.Went t x = (busy_then pass a b c (busy_take pass a b t) x.0, (x.1.0, subst (λ (d : PlainDesk). remaining (plain_of c) < remaining d) t.same x.1.1))
by_seal pass H G a b c round.Idle t x = (
  x.0,
  (
    two_then pass a b c (entry_of pass event.Take no_pie reply.NothingSealed) (entry_of pass event.Seal no_pie (reply.NothingWaiting x.0)) t.works x.1.0,
    (x.1.1.0, λ alone. x.1.1.1 (subst (WorksAlone pass) (sym t.same) alone)),
  ),
)
by_seal pass H G a b c (round.Ended work.Drained) t x = x
by_seal pass H G a b c (round.Ended work.OutOfMemory) t x = busy_then pass a b c (busy_take pass a b t) x
by_seal pass H G a b c (round.Ended (work.Rejected n fault)) t x = absurd x

-- ---- the work

pub drained : (pass : ℕ) (H : Type 0) (G : ParcelRecord → CertRecord → Type 0) (a b c : DeskRecord) → Works pass EndBusy a b → RoundDone pass H G b c round.Idle → WorkDone pass H G a c work.Drained
drained pass H G a b c w x = (idle_then pass a b c w (idle_from pass b c x.0 x.1.0), (x.1.1.0, λ alone. x.1.1.1 (w.alone alone)))

pub ended : (pass : ℕ) (H : Type 0) (G : ParcelRecord → CertRecord → Type 0) (a b c : DeskRecord) (e : WorkEnd) → Works pass EndBusy a b → RoundDone pass H G b c (round.Ended e) → WorkDone pass H G a c e
ended pass H G a b c work.Drained w x = absurd x
ended pass H G a b c work.OutOfMemory w x = busy_then pass a b c w x
ended pass H G a b c (work.Rejected n fault) w x = (busy_then pass a b c w x.0, x.1)
