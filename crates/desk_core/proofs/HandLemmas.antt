-- A batch is taken by a pass exactly where the pass's own entries say so.
use Rattle.std.proofs.Common.{◌≡◌, ◌≢◌, ℕ, zero, suc, ◌==◌, Bool, true, false, cond, List, [], ◌∷◌, ◌++◌, length, map, refl, sym, ap, ◌∙◌, subst}
use Rattle.std.specs.Prelude.{Option, Some, None}
use Rattle.std.proofs.lemmas.Bool.{eqb-true, eq-eqb}
use Rattle.desk_core.specs.Desks.{PlainDesk, PlainBatch, waiting_jobs, phase_at, is_taken_by, first_sealed, set_phase, empty_desk}
use Rattle.desk_core.specs.Hands.{in_hand_after, in_hand, entries_of_pass, HandLaw}
use Rattle.desk_core.specs.Journals.{move_of, after_move, played, AllFollow}
use Rattle.desk_core.specs.Quotas.{is_admitted}
use Rattle.desk_core.specs.Next.{reply_to, after_event, submit_reply, with_job, next_batch, after_take, after_register, after_give_back, take_reply, parcel_reply}
use Rattle.desk_core.specs.declared.entry.FullEntry.{FullEntry}
use Rattle.desk_core.specs.declared.event.Event.{Event}
use Rattle.desk_core.specs.declared.event.Event.TheVariants as event
use Rattle.desk_core.specs.declared.phase.Phase.{Phase}
use Rattle.desk_core.specs.declared.phase.Phase.TheVariants as phase
use Rattle.desk_core.specs.declared.reply.Reply.{Reply}
use Rattle.desk_core.specs.declared.reply.Reply.TheVariants as reply
use Rattle.desk_core.proofs.BatchLemmas.{phase_in, phase_moved, phase_other}
use Rattle.desk_core.proofs.SoundSteps.{first_is_sealed}
use Rattle.cairo_model.specs.Pie.Records.{PieRecord}

taken_more : (pass : ℕ) (bs : List PlainBatch) (x : PlainBatch) (b : ℕ) → x.phase ≡ phase.Sealed → is_taken_by pass (phase_in (bs ++ x ∷ []) b) ≡ is_taken_by pass (phase_in bs b)
taken_more pass [] x zero is = ap (is_taken_by pass) is
taken_more pass [] x (suc b) is = refl
taken_more pass (y ∷ bs) x zero is = refl
taken_more pass (y ∷ bs) x (suc b) is = taken_more pass bs x b is

either_same : (f : PlainDesk → Bool) (c : Bool) (x y : PlainDesk) (z : Bool) → f x ≡ z → f y ≡ z → f (cond c x y) ≡ z
either_same f true x y z p q = p
either_same f false x y z p q = q

-- who takes a batch: the phase of a taken one
who : (p : ℕ) (q : Phase) → is_taken_by p q ≡ true → (k : ℕ) × ((q ≡ phase.Taken k) × ((k == p) ≡ true))
who p phase.Sealed e = absurd (cc)
who p (phase.Taken k) e = (k, (refl, e))
who p phase.Registered e = absurd (cc)
who p phase.NoBatch e = absurd (cc)

-- what the event does to the answer whether the pass has batch b
abbrev Told : ℕ → ℕ → ℕ → Event → Reply → Bool → Bool → Type 0
Told pass by b e r before after = after ≡ cond (by == pass) (in_hand_after b before e r) before

unmoved : (c : Bool) (x : Bool) → x ≡ cond c x x
unmoved true x = refl
unmoved false x = refl

-- batch k was in the phase q and comes into p, where the pass that does it is `by`
module _ (d : PlainDesk) (pass by k b : ℕ) (p : Phase) (there : phase_at d k ≢ phase.NoBatch) where
  abbrev after_it : Bool
  after_it = is_taken_by pass (phase_in (set_phase d.batches k p) b)

  -- in the hand of `by` it is as h says, and in no other hand before or after
  moved_told : (h : Bool) → is_taken_by by p ≡ h → ((by == pass) ≡ false → is_taken_by pass p ≡ is_taken_by pass (phase_at d k))
      → after_it ≡ cond (by == pass) (cond (k == b) h (is_taken_by pass (phase_at d b))) (is_taken_by pass (phase_at d b))
  moved_told h own others = go (by == pass) (k == b) refl refl where
    go : (c e : Bool) → (by == pass) ≡ c → (k == b) ≡ e → after_it ≡ cond c (cond e h (is_taken_by pass (phase_at d b))) (is_taken_by pass (phase_at d b))
    go true true me same =
        ap (is_taken_by pass) (subst (λ (c : ℕ). phase_in (set_phase d.batches k p) c ≡ p) (eqb-true k b same) (phase_moved d.batches k p there)) ∙ subst (λ (q : ℕ). is_taken_by q p ≡ h) (eqb-true by pass me) own
    go true false me apart = ap (is_taken_by pass) (phase_other d.batches k b p (λ s. absurd (let t : true ≡ false = sym (eq-eqb k b (sym s)) ∙ apart in cc)))
    go false true other same =
        ap (is_taken_by pass) (subst (λ (c : ℕ). phase_in (set_phase d.batches k p) c ≡ p) (eqb-true k b same) (phase_moved d.batches k p there))
        ∙ (others other ∙ ap (λ (c : ℕ). is_taken_by pass (phase_in d.batches c)) (eqb-true k b same))
    go false false other apart = ap (is_taken_by pass) (phase_other d.batches k b p (λ s. absurd (let t : true ≡ false = sym (eq-eqb k b (sym s)) ∙ apart in cc)))

module _ (d : PlainDesk) (pass by b : ℕ) where
  abbrev had : Bool
  had = is_taken_by pass (phase_at d b)

  take_told : (o : Option ℕ) → first_sealed d ≡ o → is_taken_by pass (phase_at (after_take d by o) b) ≡ cond (by == pass) (in_hand_after b had event.Take (take_reply o)) had
  take_told None is = unmoved (by == pass) had
  take_told (Some k) is =
      let at : phase_at d k ≡ phase.Sealed = first_is_sealed d k is in
      moved_told d pass by k b (phase.Taken by) (λ e. absurd (let f : phase.Sealed ≡ phase.NoBatch = sym at ∙ e in cc)) true (eq-eqb by by refl) (λ other. other ∙ sym (ap (is_taken_by pass) at))

  -- the batch was taken by the pass, so it is in no other's hand
  in_no_other : (k : ℕ) → is_taken_by by (phase_at d k) ≡ true → (by == pass) ≡ false → false ≡ is_taken_by pass (phase_at d k)
  in_no_other k is other =
      let w = who by (phase_at d k) is in
      sym (ap (is_taken_by pass) w.1.0 ∙ subst (λ (j : ℕ). (j == pass) ≡ false) (sym (eqb-true w.0 by w.1.1)) other)

  there_is : (k : ℕ) → is_taken_by by (phase_at d k) ≡ true → phase_at d k ≢ phase.NoBatch
  there_is k is e = let f : false ≡ true = sym (ap (is_taken_by by) e) ∙ is in cc

  register_told : (k : ℕ) (differs : Option ℕ) (t : Bool) → is_taken_by by (phase_at d k) ≡ t
      → is_taken_by pass (phase_at (cond t (after_register d k differs) d) b) ≡ cond (by == pass) (in_hand_after b had (event.Register k differs) (cond t (parcel_reply differs) (reply.NotTaken (phase_at d k)))) had
  register_told k None true is = moved_told d pass by k b phase.Registered (there_is k is) false refl (in_no_other k is)
  register_told k (Some i) true is = unmoved (by == pass) had
  register_told k differs false is = unmoved (by == pass) had

  return_told : (k : ℕ) (t : Bool) → is_taken_by by (phase_at d k) ≡ t
      → is_taken_by pass (phase_at (cond t (after_give_back d k) d) b) ≡ cond (by == pass) (in_hand_after b had (event.GiveBack k) (cond t reply.Returned (reply.NotTaken (phase_at d k)))) had
  return_told k true is = moved_told d pass by k b phase.Sealed (there_is k is) false refl (in_no_other k is)
  return_told k false is = unmoved (by == pass) had

  told_step : (e : Event) (pie : PieRecord) → Told pass by b e (reply_to d by e) had (is_taken_by pass (phase_at (after_event d by e pie) b))
  unfolding reply_to after_event
  told_step (event.Submit client n) pie = either_same (λ (x : PlainDesk). is_taken_by pass (phase_at x b)) (is_admitted (submit_reply d client n)) (with_job d client pie) d had refl refl ∙ unmoved (by == pass) had
  told_step event.Seal pie = either_same (λ (x : PlainDesk). is_taken_by pass (phase_at x b)) (length (waiting_jobs d) == 0) d _ had refl (taken_more pass d.batches (next_batch d) b refl) ∙ unmoved (by == pass) had
  told_step event.Take pie = take_told (first_sealed d) refl
  told_step (event.Register k differs) pie = register_told k differs (is_taken_by by (phase_at d k)) refl
  told_step (event.GiveBack k) pie = return_told k (is_taken_by by (phase_at d k)) refl
  told_step (event.Ask client fact) pie = unmoved (by == pass) had
  told_step (event.Status client number) pie = unmoved (by == pass) had
  told_step event.Close pie = unmoved (by == pass) had

one_own : (b : ℕ) (c : Bool) (before : Bool) (e : FullEntry) (es : List FullEntry) → in_hand b (cond c (in_hand_after b before e.entry.event e.entry.reply) before) es ≡ in_hand b before (cond c (e ∷ es) es)
one_own b true _ e es = refl
one_own b false _ e es = refl

hand_from : (pass b : ℕ) (d : PlainDesk) (es : List FullEntry) → AllFollow d es → is_taken_by pass (phase_at (played d (map move_of es)) b) ≡ in_hand b (is_taken_by pass (phase_at d b)) (entries_of_pass pass es)
hand_from pass b d [] all = refl
hand_from pass b d (e ∷ es) all =
    let step : is_taken_by pass (phase_at (after_move d (move_of e)) b) ≡ cond (e.entry.pass == pass) (in_hand_after b (is_taken_by pass (phase_at d b)) e.entry.event e.entry.reply) (is_taken_by pass (phase_at d b)) =
    told_step d pass e.entry.pass b e.entry.event (move_of e).pie
    ∙ ap (λ (r : Reply). cond (e.entry.pass == pass) (in_hand_after b (is_taken_by pass (phase_at d b)) e.entry.event r) (is_taken_by pass (phase_at d b))) (sym all.0.replies) in
    hand_from pass b (after_move d (move_of e)) es all.1
    ∙ (ap (λ (x : Bool). in_hand b x (entries_of_pass pass es)) step ∙ one_own b (e.entry.pass == pass) (is_taken_by pass (phase_at d b)) e (entries_of_pass pass es))

pub hand_law : HandLaw
hand_law journal d legal pass b =
    subst (λ (x : PlainDesk). is_taken_by pass (phase_at x b) ≡ in_hand b false (entries_of_pass pass journal)) legal.ends (hand_from pass b (empty_desk d.clients) journal legal.follow)
