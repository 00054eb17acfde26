-- The step that gives out a number keeps the rule.
use Rattle.std.proofs.Common.{◌≡◌, ℕ, ◌+◌, ◌<◌, List, [], ◌∷◌, ◌++◌, set, sym, refl, ap, ◌∙◌, subst, arith}
use Rattle.atomic_table.proofs.Lists.{at_longer, set_here}
use Rattle.turn_lock.specs.declared.view.Stage.TheVariants.{Resting, Called}
use Rattle.turn_lock.specs.declared.view.View.{View}
use Rattle.turn_lock.specs.Views.{IsPass, HasTicket, dealt, next_pass}
use Rattle.turn_lock.specs.Locks.{Lock, At, Everyone, StandsFor, HasWidth, Deals, Numbered, Knows, Saw, Rule}
use Rattle.turn_lock.specs.Working.Steps.{Deal, with_view, with_new}
use Rattle.turn_lock.proofs.Seats.{there, everyone_set, everyone_new, someone_set, someone_new, apart_less, apart_new}
use Rattle.turn_lock.proofs.Numbers.{resting_pass, contains_one}
use Rattle.turn_lock.proofs.Lines.{line_same, line_new}
use Rattle.turn_lock.proofs.Logs.{prefix_nil, knows_alone, nothing_heard}
use Rattle.turn_lock.proofs.Slots.{slot_same, slot_new, resting_not_called}

module _ {N : Type 0} where
  numbered_deal : (passes size most : ℕ) (log : List (ℕ × N)) (views : List (View N)) (me : ℕ) (v : View N) → At views me v → IsPass v.stage → 0 < v.made → v.made < passes
      → Numbered passes size most log views → Numbered passes size (most + 1) log (set views me (dealt v) ++ next_pass v ∷ [])
  numbered_deal passes size most log views me v at pass deals room r =
      let w = dealt v in
      let new = next_pass v in
      let us = set views me w in
      let is_most : v.made ≡ most = r.made me v at (pass, deals) in
      let below : Everyone (λ u. (n : ℕ) → StandsFor u n → n < most) us = everyone_set (λ u. (n : ℕ) → StandsFor u n → n < most) views me w (λ n s. r.below me v at n (pass, s.1)) (λ k u other found. r.below k u found) in
      record {
        few = r.few;
        within = omega arith;
        greatest = (me, w, at_longer us (new ∷ []) me w (set_here views me w (there views me v at)), (pass, ap (λ (n : ℕ). n + 1) is_most));
        one_width = everyone_new (λ u. IsPass u.stage → u.width ≡ size) us new (λ _. r.one_width me v at pass) (everyone_set (λ u. IsPass u.stage → u.width ≡ size) views me w (λ _. r.one_width me v at pass) (λ k u other found. r.one_width k u found));
        joined_width = everyone_new (λ u. (n : ℕ) → HasWidth u n → n ≡ size) us new (λ n s. sym (contains_one v.width n s.1) ∙ r.one_width me v at pass) (everyone_set (λ u. (n : ℕ) → HasWidth u n → n ≡ size) views me w (λ n s. r.joined_width me v at n (pass, s.1)) (λ k u other found. r.joined_width k u found));
        made = everyone_new (λ u. Deals u tt → u.made ≡ most + 1) us new (λ d. let h = d.1 in absurd (omega arith))
            (everyone_set (λ u. Deals u tt → u.made ≡ most + 1) views me w (λ _. ap (λ (n : ℕ). n + 1) is_most) (λ k u other found d. absurd (other (r.dealer k me u v tt found at d (pass, deals)))));
        dealer = apart_new Deals us new (λ k u x found mine theirs. let h = mine.1 in omega arith) (apart_less Deals views me v w at (λ x d. (pass, deals)) r.dealer);
        below = everyone_new (λ u. (n : ℕ) → StandsFor u n → n < most + 1) us new (λ n s. let e = contains_one v.made n s.1 in omega arith) (λ k u found n s. let h = below k u found n s in omega arith);
        differ = apart_new StandsFor us new (λ k u n found mine theirs. let e = contains_one v.made n mine.1 in let h = below k u found n theirs in omega arith) (apart_less StandsFor views me v w at (λ n s. (pass, s.1)) r.differ);
        unused = λ n past. r.unused n (omega arith);
      }

module _ {S N : Type 0} (journal : S → List (ℕ × N)) (turns width : S → ℕ) where
  pub deal_keeps : (passes seat : ℕ) (l l' : Lock S N) → Rule journal turns width passes l → Deal passes seat l l' → Rule journal turns width passes l'
  deal_keeps passes seat l l' r d =
      let v = d.view in
      let w = dealt v in
      let new = next_pass v in
      let us = set l.views seat w in
      let pass = resting_pass v.stage d.rests.rests in
      let free = resting_not_called v.stage d.rests.rests in
      let known = r.seen.knows seat v d.at in
      let is_most : v.made ≡ r.most = r.numbered.made seat v d.at (pass, d.deals) in
      let middle : Lock S N = with_view l seat w in
      subst (Rule journal turns width passes) (sym d.becomes) record {
        log = r.log;
        size = r.size;
        most = r.most + 1;
        line = r.line;
        numbered = numbered_deal passes r.size r.most r.log l.views seat v d.at pass d.deals d.room r.numbered;
        in_line = line_new l.ticket l.serving r.line us new (λ t has. has) (line_same l.ticket l.serving r.line l.views seat v w d.at (λ t has. has) (λ t has. has) r.in_line);
        served = everyone_new (λ u. (t : ℕ) → u.stage ≡ Called t → t ≡ l.serving) us new (λ t is. absurd (resting_not_called Resting refl t is)) (everyone_set (λ u. (t : ℕ) → u.stage ≡ Called t → t ≡ l.serving) l.views seat w (r.served seat v d.at) (λ k u other found. r.served k u found));
        seen = record {
          longest = someone_new (Saw r.log) us new (someone_set (Saw r.log) l.views seat v w d.at (λ h. h) r.seen.longest);
          knows = everyone_new (Knows r.log) us new
              (knows_alone r.log new refl (prefix_nil r.log) (nothing_heard r.log [] refl) (r.numbered.unused v.made (omega arith)))
              (everyone_set (Knows r.log) l.views seat w record { seen = known.seen; heard = known.heard; parts = known.parts } (λ k u other found. r.seen.knows k u found));
        };
        slot = slot_new journal turns width r.size r.log middle (with_new middle new) new (resting_not_called Resting refl) refl refl refl (slot_same journal turns width r.size r.log l middle seat v w d.at free free refl refl refl r.slot);
        alone = everyone_new (λ u. (t : ℕ) → HasTicket u.stage t → (u.joined ≡ []) × (u.heard ≡ [])) us new (λ t has. absurd has) (everyone_set (λ u. (t : ℕ) → HasTicket u.stage t → (u.joined ≡ []) × (u.heard ≡ [])) l.views seat w (r.alone seat v d.at) (λ k u other found. r.alone k u found));
      }
