-- The step by which a pass takes in another keeps the rule.
use Rattle.std.proofs.Common.{◌≡◌, ◌≢◌, ℕ, zero, suc, ◌<◌, ◌⊎◌, max, List, [], ◌∷◌, map, length, set, slice_index_or, Contains, sym, refl, ap, ◌∙◌, subst, inl, inr, ⊎_elim, arith}
use mathlib.Core.Option.{some, some-injective}
use lib.ListN.{get_elem?}
use Rattle.std.proofs.lemmas.List.{set_comm}
use Rattle.atomic_table.proofs.Lists.{set_else}
use Rattle.turn_lock.specs.declared.view.Stage.TheVariants.{Called, Spent}
use Rattle.turn_lock.specs.declared.view.Part.{Part}
use Rattle.turn_lock.specs.declared.view.View.{View}
use Rattle.turn_lock.specs.Journals.{entries_by, IsPrefix}
use Rattle.turn_lock.specs.Views.{IsPass, HasTicket, spent, gathered, all_parts, parts_or, numbers_or, widths_or, own_part}
use Rattle.turn_lock.specs.Locks.{Lock, At, StandsFor, HasWidth, Deals, Numbered, Knows, Saw, Rule}
use Rattle.turn_lock.specs.Working.Steps.{Gather, with_view}
use Rattle.turn_lock.proofs.Seats.{everyone_joined, someone_joined, apart_joined}
use Rattle.turn_lock.proofs.Numbers.{resting_pass, stands_for_own}
use Rattle.turn_lock.proofs.Lines.{line_same}
use Rattle.turn_lock.proofs.Logs.{own_entries, longer_begins, longer_left, longer_right}
use Rattle.turn_lock.proofs.Slots.{slot_same, resting_not_called}
use Rattle.turn_lock.proofs.Meets.{knows_spent, spent_not_called}
use Rattle.turn_lock.proofs.Turns.{no_ticket}

larger_dealt : (a b most : ℕ) → (0 < a → a ≡ most) → (0 < b → b ≡ most) → 0 < max a b → max a b ≡ most
larger_dealt a b most h k some_dealt = grind arith

larger_is : (a b most : ℕ) → (0 < b → b ≡ most) → a ≡ most → max a b ≡ most
larger_is a b most k is = grind arith

larger_is_too : (a b most : ℕ) → (0 < a → a ≡ most) → b ≡ most → max a b ≡ most
larger_is_too a b most h is = grind arith

either_dealt : (a b : ℕ) → 0 < max a b → (0 < a) ⊎ (0 < b)
either_dealt zero b h = inr (grind arith)
either_dealt (suc a) b h = inl (omega arith)

contains_cases : (x : ℕ) (xs : List ℕ) (n : ℕ) → Contains (x ∷ xs) n → (x ≡ n) ⊎ Contains xs n
contains_cases x xs n c = at_place c.0 c.1 c.2
  where
    at_place : (k : ℕ) → k < length (x ∷ xs) → slice_index_or (x ∷ xs) k n ≡ n → (x ≡ n) ⊎ Contains xs n
    at_place zero h is = inl is
    at_place (suc k) h is = inr (k, omega arith, is)

module _ {N : Type 0} where
  -- the numbers of the parts
  pub numbers_of_parts : (joined : List (Part N)) (own : Part N) → map (λ (q : Part N). q.number) (parts_or joined own) ≡ numbers_or joined own.number
  numbers_of_parts [] own = refl
  numbers_of_parts (p ∷ ps) own = refl

  widths_of_parts : (joined : List (Part N)) (own : Part N) → map (λ (q : Part N). q.width) (parts_or joined own) ≡ widths_or joined own.width
  widths_of_parts [] own = refl
  widths_of_parts (p ∷ ps) own = refl

  -- the pass stands for the numbers of both
  stands_for_both : (v w : View N) (n : ℕ) → IsPass v.stage → IsPass w.stage → w.joined ≡ [] → StandsFor (gathered v w) n → StandsFor v n ⊎ StandsFor w n
  stands_for_both v w n pass pass_too alone s = ⊎_elim
      (λ (is : w.number ≡ n). inr (subst (StandsFor w) is (stands_for_own w pass_too alone)))
      (λ (c : Contains (map (λ (q : Part N). q.number) (all_parts v)) n). inl (pass, subst (λ (ns : List ℕ). Contains ns n) (numbers_of_parts v.joined (own_part v)) c))
      (contains_cases w.number (map (λ (q : Part N). q.number) (all_parts v)) n s.1)

  numbered_gather : (passes size most : ℕ) (log : List (ℕ × N)) (views : List (View N)) (me other : ℕ) (v w : View N) → At views me v → At views other w → other ≢ me → IsPass v.stage → IsPass w.stage → w.joined ≡ []
      → Numbered passes size most log views → Numbered passes size most log (set (set views other spent) me (gathered v w))
  numbered_gather passes size most log views me other v w at at_other apart pass pass_too alone r =
      let both = gathered v w in
      let of_v : 0 < v.made → v.made ≡ most = λ h. r.made me v at (pass, h) in
      let of_w : 0 < w.made → w.made ≡ most = λ h. r.made other w at_other (pass_too, h) in
      let stands : (n : ℕ) → StandsFor both n → StandsFor v n ⊎ StandsFor w n = λ n s. stands_for_both v w n pass pass_too alone s in
      let deals : (x : Unit {0}) → Deals both x → Deals v x ⊎ Deals w x = λ x d. ⊎_elim (λ (h : 0 < v.made). inl (pass, h)) (λ (h : 0 < w.made). inr (pass_too, h)) (either_dealt v.made w.made d.1) in
      record {
        few = r.few;
        within = r.within;
        greatest = someone_joined (λ u. IsPass u.stage × (u.made ≡ most)) views me other v w both spent at at_other apart (λ h. (pass, larger_is v.made w.made most of_w h.1)) (λ h. (pass, larger_is_too v.made w.made most of_v h.1)) r.greatest;
        one_width = everyone_joined (λ u. IsPass u.stage → u.width ≡ size) views me other both spent (λ _. r.one_width me v at pass) (λ none. absurd none) r.one_width;
        joined_width = everyone_joined (λ u. (n : ℕ) → HasWidth u n → n ≡ size) views me other both spent (λ n s. ⊎_elim
            (λ (is : w.width ≡ n). sym is ∙ r.one_width other w at_other pass_too)
            (λ (c : Contains (map (λ (q : Part N). q.width) (all_parts v)) n). r.joined_width me v at n (pass, subst (λ (ns : List ℕ). Contains ns n) (widths_of_parts v.joined (own_part v)) c))
            (contains_cases w.width (map (λ (q : Part N). q.width) (all_parts v)) n s.1)) (λ n s. absurd s.0) r.joined_width;
        made = everyone_joined (λ u. Deals u tt → u.made ≡ most) views me other both spent (λ d. larger_dealt v.made w.made most of_v of_w d.1) (λ d. absurd d.0) r.made;
        dealer = apart_joined Deals views me other v w both spent at at_other deals (λ x d. d.0) r.dealer;
        below = everyone_joined (λ u. (n : ℕ) → StandsFor u n → n < most) views me other both spent (λ n s. ⊎_elim (r.below me v at n) (r.below other w at_other n) (stands n s)) (λ n s. absurd s.0) r.below;
        differ = apart_joined StandsFor views me other v w both spent at at_other stands (λ n s. s.0) r.differ;
        unused = r.unused;
      }

  knows_both : (log : List (ℕ × N)) (v w : View N) → IsPass v.stage → IsPass w.stage → w.joined ≡ [] → Knows log v → Knows log w → Knows log (gathered v w)
  knows_both log v w pass pass_too alone k k_too = record {
    seen = longer_begins v.seen w.seen log k.seen k_too.seen;
    heard = k.heard;
    parts = λ _ i p at. by_place i p at;
  }
    where
      by_place : (i : ℕ) (p : Part N) → get_elem? (own_part w ∷ all_parts v) i ≡ some p → IsPrefix p.seen log × (entries_by p.number log ≡ p.mine)
      by_place zero p at = subst (λ (q : Part N). IsPrefix q.seen log × (entries_by q.number log ≡ q.mine)) (some-injective (own_part w) p at) (k_too.seen, own_entries log w pass_too alone k_too)
      by_place (suc i) p at = k.parts pass i p at

module _ {S N : Type 0} (journal : S → List (ℕ × N)) (turns width : S → ℕ) where
  pub gather_keeps : (passes seat other : ℕ) (l l' : Lock S N) → Rule journal turns width passes l → Gather seat other l l' → Rule journal turns width passes l'
  gather_keeps passes seat other l l' r d =
      let v = d.view in
      let w = d.taken_in in
      let both = gathered v w in
      let rests_too = d.rests_too.rests in
      let pass = resting_pass v.stage d.rests in
      let pass_too = resting_pass w.stage rests_too in
      let free = resting_not_called v.stage d.rests in
      let us = set l.views other spent in
      let at_me : At us seat v = set_else l.views other seat spent (λ same. d.apart (sym same)) ∙ d.at in
      let middle : Lock S N = with_view l other spent in
      let known = r.seen.knows seat v d.at in
      let known_too = r.seen.knows other w d.at_other in
      let swapped : with_view (with_view l seat both) other spent ≡ with_view middle seat both = ap (λ (vs : List (View N)). record l { views = vs }) (set_comm l.views seat other both spent (λ same. d.apart (sym same))) in
      subst (Rule journal turns width passes) (sym (d.becomes ∙ swapped)) record {
        log = r.log;
        size = r.size;
        most = r.most;
        line = r.line;
        numbered = numbered_gather passes r.size r.most r.log l.views seat other v w d.at d.at_other d.apart pass pass_too d.rests_too.alone r.numbered;
        in_line = line_same l.ticket l.serving r.line us seat v both at_me (λ t has. has) (λ t has. has)
            (line_same l.ticket l.serving r.line l.views other w spent d.at_other (λ t has. absurd (no_ticket w.stage t rests_too has)) (λ t has. absurd has) r.in_line);
        served = everyone_joined (λ u. (t : ℕ) → u.stage ≡ Called t → t ≡ l.serving) l.views seat other both spent (r.served seat v d.at) (λ t is. absurd (spent_not_called Spent refl t is)) r.served;
        seen = record {
          longest = someone_joined (Saw r.log) l.views seat other v w both spent d.at d.at_other d.apart
              (⊎_elim (λ (is : v.seen ≡ r.log). inl (longer_left v.seen w.seen r.log is known_too.seen)) inr)
              (⊎_elim (λ (is : w.seen ≡ r.log). inl (longer_right v.seen w.seen r.log known.seen is)) (λ (c : Contains w.heard r.log). absurd (subst (λ (xss : List (List (ℕ × N))). Contains xss r.log → ⊥) (sym d.rests_too.quiet) (λ z. let h = z.1 in omega arith) c)))
              r.seen.longest;
          knows = everyone_joined (Knows r.log) l.views seat other both spent (knows_both r.log v w pass pass_too d.rests_too.alone known known_too) (knows_spent r.log) r.seen.knows;
        };
        slot = slot_same journal turns width r.size r.log middle (with_view middle seat both) seat v both at_me free free refl refl refl
            (slot_same journal turns width r.size r.log l middle other w spent d.at_other (resting_not_called w.stage rests_too) (spent_not_called Spent refl) refl refl refl r.slot);
        alone = everyone_joined (λ u. (t : ℕ) → HasTicket u.stage t → (u.joined ≡ []) × (u.heard ≡ [])) l.views seat other both spent (λ t has. absurd (no_ticket v.stage t d.rests has)) (λ t has. absurd has) r.alone;
      }
