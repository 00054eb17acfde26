-- What is known where the table ends.
use Rattle.std.proofs.Common.{◌≡◌, ◌≢◌, ℕ, zero, suc, ◌<◌, ◌==◌, Bool, true, false, cond, List, [], ◌∷◌, slice_index_or, All, sym, refl, ap, ◌∙◌, ⊎_elim, arith, lt_of_not-le}
use mathlib.Core.Logic.{dite}
use native.Mathlib.Decide.{dec_le}
use Rattle.std.proofs.lemmas.Bool.Decides.{nat_tests}
use Rattle.turn_lock.specs.declared.view.View.{View}
use Rattle.turn_lock.specs.Journals.{entries_by}
use Rattle.turn_lock.specs.Locks.{Lock, StandsFor, AtHome, Away, Rule}
use Rattle.turn_lock.specs.Working.Steps.{Close}
use Rattle.turn_lock.proofs.Seats.{one_at}
use Rattle.turn_lock.proofs.Numbers.{resting_pass, ticket_pass, stands_for_own}
use Rattle.turn_lock.proofs.Slots.{resting_not_called}
use Rattle.turn_lock.proofs.Turns.{calls_ticket}

module _ {N : Type 0} where
  -- a number with no entry is that of no entry
  no_such_entry : (n : ℕ) (log : List (ℕ × N)) → entries_by n log ≡ [] → All (λ e. e.0 ≢ n) log
  no_such_entry n [] none k e h = absurd (omega arith)
  no_such_entry n (x ∷ xs) none zero e h = λ is. first (x.0 == n) refl is none
    where
      first : (b : Bool) → b ≡ (x.0 == n) → x.0 ≡ n → cond b (x ∷ entries_by n xs) (entries_by n xs) ≡ [] → ⊥
      first true test is gone = cc
      first false test is gone = grind (arith, nat_tests)
  no_such_entry n (x ∷ xs) none (suc k) e h = no_such_entry n xs (others (x.0 == n) none) k e (omega arith)
    where
      others : (b : Bool) → cond b (x ∷ entries_by n xs) (entries_by n xs) ≡ [] → entries_by n xs ≡ []
      others true gone = absurd (cc)
      others false gone = gone

module _ {S N : Type 0} (journal : S → List (ℕ × N)) (turns width : S → ℕ) where
  -- the slot is at home
  pub close_finds : (passes seat : ℕ) (l : Lock S N) (r : Rule journal turns width passes l) → Close passes seat l → AtHome journal turns width r.size r.log l
  close_finds passes seat l r d = ⊎_elim
      (λ (h : AtHome journal turns width r.size r.log l). h)
      (λ (a : Away journal turns width r.log l).
      let has = calls_ticket a.view.stage l.serving a.turn in
      let pass = ticket_pass a.view.stage l.serving has in
      let own : StandsFor a.view a.view.number = stands_for_own a.view pass (r.alone a.seat a.view a.at l.serving has).0 in
      let small = r.numbered.below a.seat a.view a.at a.view.number own in
      let within = r.numbered.within in
      let same = r.numbered.differ a.seat seat a.view d.view a.view.number a.at d.at own (resting_pass d.view.stage d.rests, d.all a.view.number (omega arith)) in
      absurd (resting_not_called d.view.stage d.rests l.serving (ap (λ (u : View N). u.stage) (sym (one_at l.views a.seat seat a.view d.view a.at d.at same)) ∙ a.turn)))
      r.slot

  -- each entry has the number of a pass
  pub close_entries : (passes : ℕ) (l : Lock S N) (r : Rule journal turns width passes l) → All (λ e. e.0 < passes) r.log
  close_entries passes l r k e h = dite (dec_le passes (slice_index_or r.log k e).0)
      (λ past. let within = r.numbered.within in absurd (no_such_entry (slice_index_or r.log k e).0 r.log (r.numbered.unused (slice_index_or r.log k e).0 (omega arith)) k e h refl))
      (λ small. lt_of_not-le small)
