-- The slot, as views change that are not of the pass whose turn it is.
use Rattle.std.proofs.Common.{◌≡◌, ℕ, ◌⊎◌, List, [], ◌∷◌, ◌++◌, set, sym, ap, ◌∙◌, subst, inl, inr, ⊎_elim}
use lib.ListN.{get_elem?}
use Rattle.atomic_table.proofs.Lists.{at_longer, set_else}
use Rattle.turn_lock.specs.declared.view.Stage.{Stage}
use Rattle.turn_lock.specs.declared.view.Stage.TheVariants.{Resting, Waiting, Called}
use Rattle.turn_lock.specs.declared.view.View.{View}
use Rattle.turn_lock.specs.Locks.{Lock, At, Everyone, AtHome, Away}
use Rattle.turn_lock.proofs.Seats.{one_at, everyone_set, everyone_new}

abbrev pub NotCalled : Stage → Type 0
NotCalled st = (t : ℕ) → st ≡ Called t → ⊥

pub resting_not_called : (st : Stage) → st ≡ Resting → NotCalled st
resting_not_called st is t other = cc

pub waiting_not_called : (st : Stage) (u : ℕ) → st ≡ Waiting u → NotCalled st
waiting_not_called st u is t other = cc

module _ {S N : Type 0} (journal : S → List (ℕ × N)) (turns width : S → ℕ) where
  pub slot_same : (size : ℕ) (log : List (ℕ × N)) (l l' : Lock S N) (me : ℕ) (v w : View N) → At l.views me v → NotCalled v.stage → NotCalled w.stage
      → l'.slot ≡ l.slot → l'.serving ≡ l.serving → l'.views ≡ set l.views me w
      → AtHome journal turns width size log l ⊎ Away journal turns width log l → AtHome journal turns width size log l' ⊎ Away journal turns width log l'
  slot_same size log l l' me v w at free free_too slot serving views r = ⊎_elim
      (λ (h : AtHome journal turns width size log l). inl record {
        value = h.value;
        slot = slot ∙ h.slot;
        journal_is = h.journal_is;
        turns_is = h.turns_is ∙ sym serving;
        width_is = h.width_is;
        idle = subst (Everyone (λ u. NotCalled u.stage)) (sym views) (everyone_set (λ u. NotCalled u.stage) l.views me w free_too (λ k u other found. h.idle k u found));
      })
      (λ (a : Away journal turns width log l). inr record {
        seat = a.seat;
        view = a.view;
        at = ap (λ (vs : List (View N)). get_elem? vs a.seat) views ∙ set_else l.views me a.seat w (λ same. free l.serving (subst (λ (u : View N). u.stage ≡ Called l.serving) (one_at l.views a.seat me a.view v a.at at same) a.turn)) ∙ a.at;
        slot = slot ∙ a.slot;
        turn = a.turn ∙ ap Called (sym serving);
        sees = a.sees;
      })
      r

  pub slot_new : (size : ℕ) (log : List (ℕ × N)) (l l' : Lock S N) (w : View N) → NotCalled w.stage
      → l'.slot ≡ l.slot → l'.serving ≡ l.serving → l'.views ≡ l.views ++ w ∷ []
      → AtHome journal turns width size log l ⊎ Away journal turns width log l → AtHome journal turns width size log l' ⊎ Away journal turns width log l'
  slot_new size log l l' w free slot serving views r = ⊎_elim
      (λ (h : AtHome journal turns width size log l). inl record {
        value = h.value;
        slot = slot ∙ h.slot;
        journal_is = h.journal_is;
        turns_is = h.turns_is ∙ sym serving;
        width_is = h.width_is;
        idle = subst (Everyone (λ u. NotCalled u.stage)) (sym views) (everyone_new (λ u. NotCalled u.stage) l.views w free h.idle);
      })
      (λ (a : Away journal turns width log l). inr record {
        seat = a.seat;
        view = a.view;
        at = ap (λ (vs : List (View N)). get_elem? vs a.seat) views ∙ at_longer l.views (w ∷ []) a.seat a.view a.at;
        slot = slot ∙ a.slot;
        turn = a.turn ∙ ap Called (sym serving);
        sees = a.sees;
      })
      r
