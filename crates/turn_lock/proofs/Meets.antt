-- The steps by which one pass sees what another has seen keep the rule.
use Rattle.std.proofs.Common.{◌≡◌, ℕ, zero, suc, ◌<◌, List, [], ◌∷◌, set, Contains, All, sym, refl, ap, ◌∙◌, subst, inl, inr, ⊎_elim, arith}
use Rattle.std.proofs.lemmas.List.{set_comm}
use Rattle.atomic_table.proofs.Lists.{set_else}
use Rattle.turn_lock.specs.declared.view.Stage.{Stage}
use Rattle.turn_lock.specs.declared.view.Stage.TheVariants.{Called, Note, Spent}
use Rattle.turn_lock.specs.declared.view.View.{View}
use Rattle.turn_lock.specs.Journals.{IsPrefix}
use Rattle.turn_lock.specs.Views.{IsPass, HasTicket, note_of, spent, hearing, settled, longest}
use Rattle.turn_lock.specs.Locks.{Lock, At, StandsFor, HasWidth, Deals, Numbered, Knows, Saw, Rule}
use Rattle.turn_lock.specs.Working.Steps.{Copy, Hear, Settle, with_view, with_new}
use Rattle.turn_lock.proofs.Seats.{everyone_set, everyone_new, someone_set, someone_new, someone_joined, everyone_joined, apart_less}
use Rattle.turn_lock.proofs.Numbers.{resting_pass, numbered_same, numbered_new}
use Rattle.turn_lock.proofs.Lines.{line_same, line_new}
use Rattle.turn_lock.proofs.Logs.{prefix_nil, knows_alone, own_entries, nothing_heard, longest_begins, longest_whole}
use Rattle.turn_lock.proofs.Slots.{NotCalled, slot_same, slot_new, resting_not_called}
use Rattle.turn_lock.proofs.Turns.{no_ticket}

pub note_no_pass : (st : Stage) → st ≡ Note → IsPass st → ⊥
note_no_pass st is pass = subst IsPass is pass

note_no_ticket : (st : Stage) (t : ℕ) → st ≡ Note → HasTicket st t → ⊥
note_no_ticket st t is has = subst (λ (z : Stage). HasTicket z t) is has

note_not_called : (st : Stage) → st ≡ Note → NotCalled st
note_not_called st is t other = cc

pub spent_not_called : (st : Stage) → st ≡ Spent → NotCalled st
spent_not_called st is t other = cc

module _ {N : Type 0} where
  -- a view that is no pass, and is spent
  numbered_gone : (passes size most : ℕ) (log : List (ℕ × N)) (views : List (View N)) (other : ℕ) (w : View N) → At views other w → (IsPass w.stage → ⊥) → Numbered passes size most log views → Numbered passes size most log (set views other spent)
  numbered_gone passes size most log views other w at no_pass r = record {
    few = r.few;
    within = r.within;
    greatest = someone_set (λ u. IsPass u.stage × (u.made ≡ most)) views other w spent at (λ h. absurd (no_pass h.0)) r.greatest;
    one_width = everyone_set (λ u. IsPass u.stage → u.width ≡ size) views other spent (λ pass. absurd pass) (λ k u not_other found. r.one_width k u found);
    joined_width = everyone_set (λ u. (n : ℕ) → HasWidth u n → n ≡ size) views other spent (λ n s. absurd s.0) (λ k u not_other found. r.joined_width k u found);
    made = everyone_set (λ u. Deals u tt → u.made ≡ most) views other spent (λ d. absurd d.0) (λ k u not_other found. r.made k u found);
    dealer = apart_less Deals views other w spent at (λ x d. absurd d.0) r.dealer;
    below = everyone_set (λ u. (n : ℕ) → StandsFor u n → n < most) views other spent (λ n s. absurd s.0) (λ k u not_other found. r.below k u found);
    differ = apart_less StandsFor views other w spent at (λ n s. absurd s.0) r.differ;
    unused = r.unused;
  }

  pub knows_spent : (log : List (ℕ × N)) → Knows log spent
  knows_spent log = record { seen = prefix_nil log; heard = nothing_heard log [] refl; parts = λ pass. absurd pass }

module _ {S N : Type 0} (journal : S → List (ℕ × N)) (turns width : S → ℕ) where
  pub copy_keeps : (passes seat : ℕ) (l l' : Lock S N) → Rule journal turns width passes l → Copy seat l l' → Rule journal turns width passes l'
  copy_keeps passes seat l l' r d =
      let note = note_of d.view in
      subst (Rule journal turns width passes) (sym d.becomes) record {
        log = r.log;
        size = r.size;
        most = r.most;
        line = r.line;
        numbered = numbered_new passes r.size r.most r.log l.views note (λ pass. pass) r.numbered;
        in_line = line_new l.ticket l.serving r.line l.views note (λ t has. has) r.in_line;
        served = everyone_new (λ u. (t : ℕ) → u.stage ≡ Called t → t ≡ l.serving) l.views note (λ t is. absurd (note_not_called Note refl t is)) r.served;
        seen = record {
          longest = someone_new (Saw r.log) l.views note r.seen.longest;
          knows = everyone_new (Knows r.log) l.views note record { seen = (r.seen.knows seat d.view d.at).seen; heard = nothing_heard r.log [] refl; parts = λ pass. absurd pass } r.seen.knows;
        };
        slot = slot_new journal turns width r.size r.log l (with_new l note) note (note_not_called Note refl) refl refl refl r.slot;
        alone = everyone_new (λ u. (t : ℕ) → HasTicket u.stage t → (u.joined ≡ []) × (u.heard ≡ [])) l.views note (λ t has. absurd has) r.alone;
      }

  pub hear_keeps : (passes seat other : ℕ) (l l' : Lock S N) → Rule journal turns width passes l → Hear seat other l l' → Rule journal turns width passes l'
  hear_keeps passes seat other l l' r d =
      let v = d.view in
      let note = d.note in
      let w = hearing v note in
      let pass = resting_pass v.stage d.rests.rests in
      let free = resting_not_called v.stage d.rests.rests in
      let us = set l.views other spent in
      let at_me : At us seat v = set_else l.views other seat spent (λ same. d.apart (sym same)) ∙ d.at in
      let middle : Lock S N = with_view l other spent in
      let known = r.seen.knows seat v d.at in
      let swapped : with_view (with_view l seat w) other spent ≡ with_view middle seat w = ap (λ (vs : List (View N)). record l { views = vs }) (set_comm l.views seat other w spent (λ same. d.apart (sym same))) in
      subst (Rule journal turns width passes) (sym (d.becomes ∙ swapped)) record {
        log = r.log;
        size = r.size;
        most = r.most;
        line = r.line;
        numbered = numbered_same passes r.size r.most r.log r.log us seat v w at_me (refl, refl, refl, refl, pass, pass) r.numbered.unused (numbered_gone passes r.size r.most r.log l.views other note d.at_other (note_no_pass note.stage d.is_note) r.numbered);
        in_line = line_same l.ticket l.serving r.line us seat v w at_me (λ t has. has) (λ t has. has)
            (line_same l.ticket l.serving r.line l.views other note spent d.at_other (λ t has. absurd (note_no_ticket note.stage t d.is_note has)) (λ t has. absurd has) r.in_line);
        served = everyone_joined (λ u. (t : ℕ) → u.stage ≡ Called t → t ≡ l.serving) l.views seat other w spent (r.served seat v d.at) (λ t is. absurd (spent_not_called Spent refl t is)) r.served;
        seen = record {
          longest = someone_joined (Saw r.log) l.views seat other v note w spent d.at d.at_other d.apart
              (⊎_elim inl (λ (c : Contains v.heard r.log). absurd (subst (λ (xss : List (List (ℕ × N))). Contains xss r.log → ⊥) (sym d.rests.quiet) (λ z. let h = z.1 in omega arith) c)))
              (⊎_elim (λ (is : note.seen ≡ r.log). inr (0, omega arith, is)) (λ (c : Contains note.heard r.log). absurd (subst (λ (xss : List (List (ℕ × N))). Contains xss r.log → ⊥) (sym d.quiet_note) (λ z. let h = z.1 in omega arith) c)))
              r.seen.longest;
          knows = everyone_joined (Knows r.log) l.views seat other w spent record { seen = known.seen; heard = one_heard note.seen r.log (r.seen.knows other note d.at_other).seen; parts = known.parts } (knows_spent r.log) r.seen.knows;
        };
        slot = slot_same journal turns width r.size r.log middle (with_view middle seat w) seat v w at_me free free refl refl refl
            (slot_same journal turns width r.size r.log l middle other note spent d.at_other (note_not_called note.stage d.is_note) (spent_not_called Spent refl) refl refl refl r.slot);
        alone = everyone_joined (λ u. (t : ℕ) → HasTicket u.stage t → (u.joined ≡ []) × (u.heard ≡ [])) l.views seat other w spent (λ t has. absurd (no_ticket v.stage t d.rests.rests has)) (λ t has. absurd has) r.alone;
      }
    where
      one_heard : (xs log : List (ℕ × N)) → IsPrefix xs log → All (λ ys. IsPrefix ys log) (xs ∷ [])
      one_heard xs log p zero e h = p
      one_heard xs log p (suc k) e h = absurd (omega arith)

  -- what a pass has seen and heard, it knows
  pub settles : (passes seat : ℕ) (l : Lock S N) (r : Rule journal turns width passes l) (v : View N) → At l.views seat v → IsPrefix (longest v.seen v.heard) r.log
  settles passes seat l r v at = let known = r.seen.knows seat v at in longest_begins v.seen r.log v.heard known.seen known.heard

  pub settle_keeps : (passes seat : ℕ) (l l' : Lock S N) → Rule journal turns width passes l → Settle seat l l' → Rule journal turns width passes l'
  settle_keeps passes seat l l' r d =
      let v = d.view in
      let w = settled v in
      let pass = resting_pass v.stage d.rests in
      let free = resting_not_called v.stage d.rests in
      let known = r.seen.knows seat v d.at in
      subst (Rule journal turns width passes) (sym d.becomes) record {
        log = r.log;
        size = r.size;
        most = r.most;
        line = r.line;
        numbered = numbered_same passes r.size r.most r.log r.log l.views seat v w d.at (refl, refl, refl, refl, pass, pass) r.numbered.unused r.numbered;
        in_line = line_same l.ticket l.serving r.line l.views seat v w d.at (λ t has. has) (λ t has. has) r.in_line;
        served = everyone_set (λ u. (t : ℕ) → u.stage ≡ Called t → t ≡ l.serving) l.views seat w (r.served seat v d.at) (λ k u other found. r.served k u found);
        seen = record {
          longest = someone_set (Saw r.log) l.views seat v w d.at (λ h. inl (longest_whole v.seen r.log v.heard known.seen known.heard h)) r.seen.longest;
          knows = everyone_set (Knows r.log) l.views seat w (knows_alone r.log w d.alone (settles passes seat l r v d.at) (nothing_heard r.log [] refl) (own_entries r.log v pass d.alone known)) (λ k u other found. r.seen.knows k u found);
        };
        slot = slot_same journal turns width r.size r.log l (with_view l seat w) seat v w d.at free free refl refl refl r.slot;
        alone = everyone_set (λ u. (t : ℕ) → HasTicket u.stage t → (u.joined ≡ []) × (u.heard ≡ [])) l.views seat w (λ t has. absurd (no_ticket v.stage t d.rests has)) (λ k u other found. r.alone k u found);
      }
