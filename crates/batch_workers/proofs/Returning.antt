-- A batch in hand is given back, at once or after some tries.
use Rattle.std.proofs.Common.{◌≡◌, ◌≢◌, ℕ, Bool, true, false, cond, List, [], map, refl, sym, ap, ◌∙◌, subst}
use Rattle.std.proofs.lemmas.Bool.{eq-eqb}
use Rattle.std.proofs.lemmas.List.{append-nil}
use Rattle.std.proofs.lemmas.List.Elements.{All-nil}
use Rattle.cairo_model.specs.Pie.Records.{PieRecord}
use Rattle.desk_core.specs.DeskRecords.{DeskRecord, journal_of, plain_of}
use Rattle.desk_core.specs.Desks.{PlainDesk, PlainJob, is_taken_by, phase_at}
use Rattle.desk_core.specs.Journals.{no_pie}
use Rattle.desk_core.specs.Next.{after_event, after_give_back, reply_to}
use Rattle.desk_core.specs.Turns.{IsTurn, entry_of, turned}
use Rattle.desk_core.specs.declared.event.Event.TheVariants as event
use Rattle.desk_core.specs.declared.phase.Phase.TheVariants as phase
use Rattle.desk_core.specs.declared.reply.Reply.{Reply}
use Rattle.desk_core.specs.declared.reply.Reply.TheVariants as reply
use Rattle.desk_core.specs.Stays.{pies_at}
use Rattle.desk_core.proofs.BatchLemmas.{phase_moved}
use Rattle.batch_workers.specs.Works.{EndBusy, IsWorkOf, Works, is_nothing, is_of_holder}
use Rattle.batch_workers.specs.Working.Rounds.{HandedBack, HoldsAlone}
use Rattle.batch_workers.proofs.Endings.{busy_from, busy_then}
use Rattle.batch_workers.proofs.Events.{one_event}
use Rattle.batch_workers.proofs.Taking.{idle_again, pies_stay}

-- ---- no event

pub turned_only : (pass : ℕ) (d : DeskRecord) → Works pass EndBusy d (turned d)
turned_only pass d = record {
  more = [];
  journal = sym (append-nil (journal_of d));
  works = All-nil (IsWorkOf pass);
  ends = refl;
  jobs = refl;
  clients = refl;
  closed = refl;
  alone = λ h. h;
}

-- memory was wanted
pub wanted : (pass : ℕ) (old new : DeskRecord) → new ≡ turned old → Works pass EndBusy old new
wanted pass old new is = subst (Works pass EndBusy old) (sym is) (turned_only pass old)

-- ---- the batch is given back

pub own_batch : (pass : ℕ) (d : PlainDesk) (b : ℕ) (pies : List PieRecord) → HoldsAlone pass d b pies → is_taken_by pass (phase_at d b) ≡ true
own_batch pass d b pies h = ap (is_taken_by pass) h.taken ∙ eq-eqb pass pass refl

pub gave_back : (pass : ℕ) (old new : DeskRecord) (b : ℕ) (pies : List PieRecord) (r : Reply) → IsTurn old new pass (event.GiveBack b) no_pie r → HoldsAlone pass (plain_of old) b pies → HandedBack pass b pies old new true
unfolding reply_to after_event
gave_back pass old new b pies r turn h =
    let own = own_batch pass (plain_of old) b pies h in
    let r_is : r ≡ reply.Returned = turn.replies ∙ ap (λ (t : Bool). cond t reply.Returned (reply.NotTaken (phase_at (plain_of old) b))) own in
    let moved : plain_of new ≡ after_give_back (plain_of old) b = turn.becomes ∙ ap (λ (t : Bool). cond t (after_give_back (plain_of old) b) (plain_of old)) own in (
      busy_from pass old new (entry_of pass (event.GiveBack b) no_pie r) (ap is_nothing r_is) (one_event old new pass (event.GiveBack b) r refl (ap is_of_holder r_is) turn),
      subst (λ (x : PlainDesk). ((k : ℕ) → phase_at x k ≢ phase.Taken pass) × ((phase_at x b ≡ phase.Sealed) × (pies_at x b ≡ pies))) (sym moved) (
        idle_again pass (plain_of old) b phase.Sealed (plain_of old).registered pies (λ q. cc) h,
        (
          phase_moved (plain_of old).batches b phase.Sealed (λ q. let t : phase.Taken pass ≡ phase.NoBatch = sym h.taken ∙ q in cc),
          ap (map (λ (j : PlainJob). j.pie)) (pies_stay (plain_of old).jobs (plain_of old).batches b b phase.Sealed) ∙ h.are,
        ),
      ),
    )

pub still_held : (pass : ℕ) (old new : DeskRecord) (b : ℕ) (pies : List PieRecord) → new ≡ turned old → HandedBack pass b pies old new false
still_held pass old new b pies is = (wanted pass old new is, ap plain_of is)

-- what was tried before changed nothing
pub back_then : (pass b : ℕ) (pies : List PieRecord) (a c e : DeskRecord) (t : Bool) → HandedBack pass b pies a c false → HandedBack pass b pies c e t → HandedBack pass b pies a e t
back_then pass b pies a c e true x y = (busy_then pass a c e x.0 y.0, y.1)
back_then pass b pies a c e false x y = (busy_then pass a c e x.0 y.0, y.1 ∙ x.1)

pub then_back : (pass b : ℕ) (pies : List PieRecord) (a c e : DeskRecord) (t : Bool) → HoldsAlone pass (plain_of a) b pies → HandedBack pass b pies a c false → (HoldsAlone pass (plain_of c) b pies → HandedBack pass b pies c e t) → HandedBack pass b pies a e t
then_back pass b pies a c e t h x next = back_then pass b pies a c e t x (next (subst (λ (d : PlainDesk). HoldsAlone pass d b pies) (sym x.1) h))

pub back_works : (pass b : ℕ) (pies : List PieRecord) (old new : DeskRecord) (t : Bool) → HandedBack pass b pies old new t → Works pass EndBusy old new
back_works pass b pies old new true x = x.0
back_works pass b pies old new false x = x.0
