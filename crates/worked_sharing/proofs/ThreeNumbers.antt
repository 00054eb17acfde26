-- Three passes with the numbers 0, 1 and 2 have each number below 3.
use Rattle.std.proofs.Common.{◌≡◌, ℕ, ◌<◌, List, [], ◌∷◌, map, Contains, subst, sym, refl}
use Rattle.std.specs.List.{range_with_len}
use Rattle.turn_lock.specs.Passes.{Token, IsNumberOf, fresh}
use Rattle.turn_lock.proofs.Fresh.{fresh_number}

module _ {N : Type 0} where
  pub three_numbers : (a b d : Token N) (ps : List (Token N)) → ps ≡ a ∷ b ∷ d ∷ [] → a.number ≡ 0 → b.number ≡ 1 → d.number ≡ 2 → (count : ℕ) → count ≡ 3 → (n : ℕ) → n < count → IsNumberOf ps n
  three_numbers a b d ps is first second third count three n small =
      let known : Contains (0 ∷ 1 ∷ 2 ∷ []) n = fresh_number {N = N} a.lock a.width 3 (map (fresh {N = N} a.lock a.width) (range_with_len 0 3)) refl n (subst (λ (m : ℕ). n < m) three small) in
      subst (λ (qs : List (Token N)). IsNumberOf qs n) (sym is)
      (subst (λ (x : ℕ). Contains (x ∷ b.number ∷ d.number ∷ []) n) (sym first)
      (subst (λ (y : ℕ). Contains (0 ∷ y ∷ d.number ∷ []) n) (sym second)
      (subst (λ (z : ℕ). Contains (0 ∷ 1 ∷ z ∷ []) n) (sym third) known)))
