-- Facts about all views, after a change of one of them, and after a new one.
use Rattle.std.proofs.Common.{◌≡◌, ◌≢◌, ℕ, zero, suc, ◌<◌, ◌⊎◌, List, [], ◌∷◌, ◌++◌, length, set, sym, refl, ap, ◌∙◌, subst, inl, inr, ⊎_elim, arith}
use mathlib.Core.Logic.{dite}
use mathlib.Core.Option.{some, some-injective, some-ne-none}
use native.Mathlib.Decide.{ℕ_discrete}
use lib.ListN.{get_elem?}
use Rattle.atomic_table.proofs.Lists.{at_set, at_longer, set_here, set_else}
use Rattle.turn_lock.specs.declared.view.View.{View}
use Rattle.turn_lock.specs.Locks.{At, Apart, Someone, Everyone}

module _ {A : Type 0} where
  pub there : (xs : List A) (i : ℕ) (x : A) → get_elem? xs i ≡ some x → i < length xs
  there [] i x at = absurd (some-ne-none x (sym at))
  there (y ∷ ys) zero x at = omega arith
  there (y ∷ ys) (suc i) x at = let more = there ys i x at in omega arith

  -- what stands in a list that is longer by one stood there before, or is the last
  pub at_end : (xs : List A) (a b : A) (j : ℕ) → get_elem? (xs ++ a ∷ []) j ≡ some b → (get_elem? xs j ≡ some b) ⊎ ((j ≡ length xs) × (a ≡ b))
  at_end [] a b zero at = inr (refl, some-injective a b at)
  at_end [] a b (suc j) at = absurd (some-ne-none b (sym at))
  at_end (x ∷ xs) a b zero at = inl at
  at_end (x ∷ xs) a b (suc j) at = ⊎_elim inl (λ (h : (j ≡ length xs) × (a ≡ b)). inr ((let e = h.0 in omega arith), h.1)) (at_end xs a b j at)

  pub one_at : (xs : List A) (i j : ℕ) (x y : A) → get_elem? xs i ≡ some x → get_elem? xs j ≡ some y → i ≡ j → x ≡ y
  one_at xs i j x y at_i at_j same = some-injective x y (sym at_i ∙ ap (λ (k : ℕ). get_elem? xs k) same ∙ at_j)

module _ {N : Type 0} where
  pub everyone_set : (P : View N → Type 0) (vs : List (View N)) (me : ℕ) (w : View N) → P w → ((k : ℕ) (u : View N) → k ≢ me → At vs k u → P u) → Everyone P (set vs me w)
  everyone_set P vs me w mine others j u at =
      ⊎_elim
      (λ (is : (j ≡ me) × (w ≡ u)). subst P is.1 mine)
      (λ (other : (j ≢ me) × At vs j u). others j u other.0 other.1)
      (at_set vs me j w u at)

  -- the same of a fact that names the seat
  pub each_set : (P : ℕ → View N → Type 0) (vs : List (View N)) (me : ℕ) (w : View N) → P me w → ((k : ℕ) (u : View N) → k ≢ me → At vs k u → P k u) → (j : ℕ) (u : View N) → At (set vs me w) j u → P j u
  each_set P vs me w mine others j u at =
      ⊎_elim
      (λ (is : (j ≡ me) × (w ≡ u)). subst (λ (i : ℕ). P i u) (sym is.0) (subst (P me) is.1 mine))
      (λ (other : (j ≢ me) × At vs j u). others j u other.0 other.1)
      (at_set vs me j w u at)

  pub someone_set : (P : View N → Type 0) (vs : List (View N)) (me : ℕ) (v w : View N) → At vs me v → (P v → P w) → Someone P vs → Someone P (set vs me w)
  someone_set P vs me v w at same one = dite (ℕ_discrete one.0 me)
      (λ is. (me, w, set_here vs me w (there vs me v at), same (subst P (one_at vs one.0 me one.1 v one.2 at is) one.3)))
      (λ other. (one.0, one.1, set_else vs me one.0 w other ∙ one.2, one.3))

  pub apart_set : {X : Type 0} (R : View N → X → Type 0) (vs : List (View N)) (me : ℕ) (w : View N)
      → ((k : ℕ) (u : View N) (x : X) → k ≢ me → At vs k u → R w x → R u x → ⊥) → Apart R vs → Apart R (set vs me w)
  apart_set {X} R vs me w new old j k a b x at_j at_k has_a has_b =
      ⊎_elim
      (λ (mine : (j ≡ me) × (w ≡ a)). ⊎_elim
      (λ (mine_too : (k ≡ me) × (w ≡ b)). mine.0 ∙ sym mine_too.0)
      (λ (other : (k ≢ me) × At vs k b). absurd (new k b x other.0 other.1 (subst (λ (z : View N). R z x) (sym mine.1) has_a) has_b))
      (at_set vs me k w b at_k))
      (λ (other : (j ≢ me) × At vs j a). ⊎_elim
      (λ (mine : (k ≡ me) × (w ≡ b)). absurd (new j a x other.0 other.1 (subst (λ (z : View N). R z x) (sym mine.1) has_b) has_a))
      (λ (other_too : (k ≢ me) × At vs k b). old j k a b x other.1 other_too.1 has_a has_b)
      (at_set vs me k w b at_k))
      (at_set vs me j w a at_j)

  -- the new view is related to no more than the old one
  pub apart_less : {X : Type 0} (R : View N → X → Type 0) (vs : List (View N)) (me : ℕ) (v w : View N) → At vs me v → ((x : X) → R w x → R v x) → Apart R vs → Apart R (set vs me w)
  apart_less R vs me v w at less old = apart_set R vs me w (λ k u x other found mine theirs. other (old k me u v x found at theirs (less x mine))) old

  pub everyone_new : (P : View N → Type 0) (vs : List (View N)) (w : View N) → P w → Everyone P vs → Everyone P (vs ++ w ∷ [])
  everyone_new P vs w mine others j u at =
      ⊎_elim
      (λ (old : At vs j u). others j u old)
      (λ (is : (j ≡ length vs) × (w ≡ u)). subst P is.1 mine)
      (at_end vs w u j at)

  pub someone_new : (P : View N → Type 0) (vs : List (View N)) (w : View N) → Someone P vs → Someone P (vs ++ w ∷ [])
  someone_new P vs w one = (one.0, one.1, at_longer vs (w ∷ []) one.0 one.1 one.2, one.3)

  pub apart_new : {X : Type 0} (R : View N → X → Type 0) (vs : List (View N)) (w : View N)
      → ((k : ℕ) (u : View N) (x : X) → At vs k u → R w x → R u x → ⊥) → Apart R vs → Apart R (vs ++ w ∷ [])
  apart_new {X} R vs w new old j k a b x at_j at_k has_a has_b =
      ⊎_elim
      (λ (old_j : At vs j a). ⊎_elim
      (λ (old_k : At vs k b). old j k a b x old_j old_k has_a has_b)
      (λ (is : (k ≡ length vs) × (w ≡ b)). absurd (new j a x old_j (subst (λ (z : View N). R z x) (sym is.1) has_b) has_a))
      (at_end vs w b k at_k))
      (λ (is : (j ≡ length vs) × (w ≡ a)). ⊎_elim
      (λ (old_k : At vs k b). absurd (new k b x old_k (subst (λ (z : View N). R z x) (sym is.1) has_a) has_b))
      (λ (is_too : (k ≡ length vs) × (w ≡ b)). is.0 ∙ sym is_too.0)
      (at_end vs w b k at_k))
      (at_end vs w a j at_j)

  -- A pass takes in another, whose seat is spent: what holds of someone
  pub someone_joined : (P : View N → Type 0) (vs : List (View N)) (me other : ℕ) (v w both gone : View N) → At vs me v → At vs other w → other ≢ me → (P v → P both) → (P w → P both)
      → Someone P vs → Someone P (set (set vs other gone) me both)
  someone_joined P vs me other v w both gone at at_other differ to to_other one =
      let us = set vs other gone in
      let at_me : At us me v = set_else vs other me gone (λ same. differ (sym same)) ∙ at in
      let here = set_here us me both (there us me v at_me) in
      dite (ℕ_discrete one.0 me)
      (λ is. (me, both, here, to (subst P (one_at vs one.0 me one.1 v one.2 at is) one.3)))
      (λ not_me. dite (ℕ_discrete one.0 other)
      (λ is. (me, both, here, to_other (subst P (one_at vs one.0 other one.1 w one.2 at_other is) one.3)))
      (λ not_other. (one.0, one.1, set_else us me one.0 both not_me ∙ set_else vs other one.0 gone not_other ∙ one.2, one.3)))

  -- what holds of everyone
  pub everyone_joined : (P : View N → Type 0) (vs : List (View N)) (me other : ℕ) (both gone : View N) → P both → P gone → Everyone P vs → Everyone P (set (set vs other gone) me both)
  everyone_joined P vs me other both gone mine none old =
      everyone_set P (set vs other gone) me both mine (λ k u not_me found. everyone_set P vs other gone none (λ j z not_other there. old j z there) k u found)

  -- and what tells the seats apart
  pub apart_joined : {X : Type 0} (R : View N → X → Type 0) (vs : List (View N)) (me other : ℕ) (v w both gone : View N) → At vs me v → At vs other w
      → ((x : X) → R both x → R v x ⊎ R w x) → ((x : X) → R gone x → ⊥) → Apart R vs → Apart R (set (set vs other gone) me both)
  apart_joined {X} R vs me other v w both gone at at_other either free old =
      apart_set R (set vs other gone) me both (λ k u x not_me found mine theirs.
      ⊎_elim
      (λ (is : (k ≡ other) × (gone ≡ u)). free x (subst (λ (z : View N). R z x) (sym is.1) theirs))
      (λ (not_other : (k ≢ other) × At vs k u). ⊎_elim
      (λ (of_v : R v x). not_me (old k me u v x not_other.1 at theirs of_v))
      (λ (of_w : R w x). not_other.0 (old k other u w x not_other.1 at_other theirs of_w))
      (either x mine))
      (at_set vs other k gone u found))
      (apart_less R vs other w gone at_other (λ x none. absurd (free x none)) old)
