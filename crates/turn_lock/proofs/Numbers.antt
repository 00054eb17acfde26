-- The numbers of passes, and why no more passes than those stand in line.
use Rattle.std.proofs.Common.{◌≡◌, ◌≢◌, ℕ, zero, suc, ◌<◌, ◌≤◌, List, [], ◌∷◌, ◌++◌, length, get_or, set, Contains, slice_index_or, sym, refl, ap, ◌∙◌, subst, arith}
use mathlib.Core.Option.{some, some-injective, some-ne-none}
use lib.ListN.{get_elem?}
use Rattle.std.proofs.lemmas.List.{get_or_default}
use Rattle.atomic_table.proofs.Lists.{at_index}
use Rattle.turn_lock.specs.Journals.{entries_by}
use Rattle.turn_lock.specs.declared.view.Stage.{Stage}
use Rattle.turn_lock.specs.declared.view.Stage.TheVariants.{Resting, Waiting, Called, Note, Spent}
use Rattle.turn_lock.specs.declared.view.Part.{Part}
use Rattle.turn_lock.specs.declared.view.View.{View}
use Rattle.turn_lock.specs.Views.{IsPass, HasTicket, numbers_or, widths_or}
use Rattle.turn_lock.specs.Locks.{At, Everyone, StandsFor, HasWidth, Deals, Numbered, InLine}
use Rattle.turn_lock.proofs.Pigeonhole.{at_most}
use Rattle.turn_lock.proofs.Seats.{everyone_set, everyone_new, someone_set, someone_new, apart_less, apart_new}

pub resting_pass : (st : Stage) → st ≡ Resting → IsPass st
resting_pass st is = subst IsPass (sym is) tt

pub ticket_pass : (st : Stage) (t : ℕ) → HasTicket st t → IsPass st
ticket_pass Resting t has = tt
ticket_pass (Waiting u) t has = tt
ticket_pass (Called u) t has = tt
ticket_pass Note t has = absurd has
ticket_pass Spent t has = absurd has

pub contains_one : (x n : ℕ) → Contains (x ∷ []) n → x ≡ n
contains_one x n c = at_place c.0 c.1 c.2
  where
    at_place : (k : ℕ) → k < 1 → slice_index_or (x ∷ []) k n ≡ n → x ≡ n
    at_place zero h is = is
    at_place (suc k) h is = absurd (omega arith)

module _ {N : Type 0} where
  -- a pass stands for its own number
  own_number : (joined : List (Part N)) (n : ℕ) → joined ≡ [] → Contains (numbers_or joined n) n
  own_number joined n none = subst (λ (ps : List (Part N)). Contains (numbers_or ps n) n) (sym none) (0, omega arith, refl)

  pub stands_for_own : (v : View N) → IsPass v.stage → v.joined ≡ [] → StandsFor v v.number
  stands_for_own v pass none = (pass, own_number v.joined v.number none)

  abbrev Same : View N → View N → Type 0
  Same v w = (w.number ≡ v.number) × (w.width ≡ v.width) × (w.made ≡ v.made) × (w.joined ≡ v.joined) × IsPass v.stage × IsPass w.stage

  -- numbers are as before where a view keeps its number, and the log goes on with entries of numbers given out
  pub numbered_same : (passes size most : ℕ) (log log' : List (ℕ × N)) (views : List (View N)) (me : ℕ) (v w : View N) → At views me v → Same v w
      → ((n : ℕ) → most ≤ n → entries_by n log' ≡ [])
      → Numbered passes size most log views → Numbered passes size most log' (set views me w)
  numbered_same passes size most log log' views me v w at same unused r =
      let stands : (n : ℕ) → StandsFor w n → StandsFor v n = λ n s. (same.4, subst (λ (ps : List (Part N)). Contains (numbers_or ps v.number) n) same.3 (subst (λ (k : ℕ). Contains (numbers_or w.joined k) n) same.0 s.1)) in
      let wide : (n : ℕ) → HasWidth w n → HasWidth v n = λ n s. (same.4, subst (λ (ps : List (Part N)). Contains (widths_or ps v.width) n) same.3 (subst (λ (k : ℕ). Contains (widths_or w.joined k) n) same.1 s.1)) in
      let deals : (x : Unit {0}) → Deals w x → Deals v x = λ x d. (same.4, subst (λ (k : ℕ). 0 < k) same.2 d.1) in
      record {
        few = r.few;
        within = r.within;
        greatest = someone_set (λ u. IsPass u.stage × (u.made ≡ most)) views me v w at (λ h. (same.5, same.2 ∙ h.1)) r.greatest;
        one_width = everyone_set (λ u. IsPass u.stage → u.width ≡ size) views me w (λ _. same.1 ∙ r.one_width me v at same.4) (λ k u other found. r.one_width k u found);
        joined_width = everyone_set (λ u. (n : ℕ) → HasWidth u n → n ≡ size) views me w (λ n s. r.joined_width me v at n (wide n s)) (λ k u other found. r.joined_width k u found);
        made = everyone_set (λ u. Deals u tt → u.made ≡ most) views me w (λ d. same.2 ∙ r.made me v at (deals tt d)) (λ k u other found. r.made k u found);
        dealer = apart_less Deals views me v w at deals r.dealer;
        below = everyone_set (λ u. (n : ℕ) → StandsFor u n → n < most) views me w (λ n s. r.below me v at n (stands n s)) (λ k u other found. r.below k u found);
        differ = apart_less StandsFor views me v w at stands r.differ;
        unused = unused;
      }

  -- a new view that is no pass
  pub numbered_new : (passes size most : ℕ) (log : List (ℕ × N)) (views : List (View N)) (w : View N) → (IsPass w.stage → ⊥) → Numbered passes size most log views → Numbered passes size most log (views ++ w ∷ [])
  numbered_new passes size most log views w no_pass r = record {
    few = r.few;
    within = r.within;
    greatest = someone_new (λ u. IsPass u.stage × (u.made ≡ most)) views w r.greatest;
    one_width = everyone_new (λ u. IsPass u.stage → u.width ≡ size) views w (λ pass. absurd (no_pass pass)) r.one_width;
    joined_width = everyone_new (λ u. (n : ℕ) → HasWidth u n → n ≡ size) views w (λ n s. absurd (no_pass s.0)) r.joined_width;
    made = everyone_new (λ u. Deals u tt → u.made ≡ most) views w (λ d. absurd (no_pass d.0)) r.made;
    dealer = apart_new Deals views w (λ k u x found mine theirs. no_pass mine.0) r.dealer;
    below = everyone_new (λ u. (n : ℕ) → StandsFor u n → n < most) views w (λ n s. absurd (no_pass s.0)) r.below;
    differ = apart_new StandsFor views w (λ k u x found mine theirs. no_pass mine.0) r.differ;
    unused = r.unused;
  }

  number_at : List (View N) → ℕ → ℕ
  number_at [] j = 0
  number_at (v ∷ vs) zero = v.number
  number_at (v ∷ vs) (suc j) = number_at vs j

  number_at_seat : (vs : List (View N)) (j : ℕ) (v : View N) → At vs j v → number_at vs j ≡ v.number
  unfolding number_at
  number_at_seat [] j v at = absurd (some-ne-none v (sym at))
  number_at_seat (u ∷ vs) zero v at = ap (λ (z : View N). z.number) (some-injective u v at)
  number_at_seat (u ∷ vs) (suc j) v at = number_at_seat vs j v at

  -- no more passes stand in line than numbers were given out
  pub line_at_most : (passes size most ticket serving : ℕ) (log : List (ℕ × N)) (line : List ℕ) (views : List (View N)) → Numbered passes size most log views → InLine ticket serving line views
      → Everyone (λ v. (t : ℕ) → HasTicket v.stage t → (v.joined ≡ []) × (v.heard ≡ [])) views → length line ≤ most
  line_at_most passes size most ticket serving log line views r l alone =
      at_most (length line) most (λ k. number_at views (get_or line k 0)) below apart
    where
      here : (k : ℕ) → k < length line → get_elem? line k ≡ some (get_or line k 0)
      here k h = at_index line k (get_or line k 0) h (get_or_default line k 0 (get_or line k 0) h)

      stands : (k : ℕ) (h : k < length line) → (v : View N) × At views (get_or line k 0) v × StandsFor v (number_at views (get_or line k 0))
      stands k h =
          let s = l.stands k (get_or line k 0) (here k h) in
          let own = stands_for_own s.0 (ticket_pass s.0.stage _ s.2) (alone (get_or line k 0) s.0 s.1 _ s.2).0 in
          (s.0, s.1, subst (λ (n : ℕ). StandsFor s.0 n) (sym (number_at_seat views (get_or line k 0) s.0 s.1)) own)

      below : (k : ℕ) → k < length line → number_at views (get_or line k 0) < most
      below k h = let s = stands k h in r.below (get_or line k 0) s.0 s.1 (number_at views (get_or line k 0)) s.2

      apart : (i j : ℕ) → i < j → j < length line → number_at views (get_or line i 0) ≢ number_at views (get_or line j 0)
      apart i j less h same =
          let a = stands i (let x = less in let y = h in omega arith) in
          let b = stands j h in
          let one_seat = r.differ (get_or line i 0) (get_or line j 0) a.0 b.0 (number_at views (get_or line j 0)) a.1 b.1 (subst (λ (n : ℕ). StandsFor a.0 n) same a.2) b.2 in
          let one_place = l.once i j (get_or line j 0) (here i (let x = less in let y = h in omega arith) ∙ ap some one_seat) (here j h) in
          omega arith
