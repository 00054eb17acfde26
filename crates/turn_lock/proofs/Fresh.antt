-- For callers: the passes of a new lock have all numbers, and what a list of passes has afterwards.
use Rattle.std.proofs.Common.{◌≡◌, ℕ, zero, suc, ◌+◌, ◌<◌, List, [], ◌∷◌, ◌++◌, map, take, drop, length, get_or, All, Contains, sym, refl, ap, ap₂, ◌∙◌, subst, arith, append-nil, zero-add, take_all}
use Rattle.std.specs.List.{range_with_len}
use Rattle.std.proofs.lemmas.List.{drop_all}
use Rattle.std.proofs.lemmas.List.Elements.{All-map}
use Rattle.std.proofs.lemmas.List.FromFn.{length-range_with_len, get_or-range_with_len}
use Rattle.atomic_table.specs.Seated.{TableId}
use Rattle.turn_lock.specs.Passes.{Token, fresh, IsNumberOf}

numbers_of_fresh : (N : Type 0) (lock : TableId) (width a n : ℕ) → map (λ (p : Token N). p.number) (map (fresh lock width) (range_with_len a n)) ≡ range_with_len a n
numbers_of_fresh N lock width a zero = refl
numbers_of_fresh N lock width a (suc n) = ap (λ (ns : List ℕ). a ∷ ns) (numbers_of_fresh N lock width (a + 1) n)

module _ {N : Type 0} where
  -- each number below the count is that of one of the passes
  pub fresh_number : (lock : TableId) (width n : ℕ) (ps : List (Token N)) → ps ≡ map (fresh lock width) (range_with_len 0 n) → (k : ℕ) → k < n → IsNumberOf ps k
  fresh_number lock width n ps is k small =
      subst (λ (qs : List (Token N)). IsNumberOf qs k) (sym is) (subst (λ (ns : List ℕ). Contains ns k) (sym (numbers_of_fresh N lock width 0 n))
      (k, subst (λ (m : ℕ). k < m) (sym (length-range_with_len 0 n)) small, get_or-range_with_len 0 n k k small ∙ zero-add k))

  -- and each pass is one of the lock
  pub fresh_own : (lock : TableId) (width n : ℕ) (ps : List (Token N)) → ps ≡ map (fresh lock width) (range_with_len 0 n) → All (λ p. p.lock ≡ lock) ps
  fresh_own lock width n ps is = subst (All (λ (p : Token N). p.lock ≡ lock)) (sym is) (All-map (λ (p : Token N). p.lock ≡ lock) (fresh lock width) (range_with_len 0 n) (λ k d small. refl))

  -- lists with the same numbers have a number both or neither
  pub same_numbers : (ps qs : List (Token N)) (n : ℕ) → map (λ (p : Token N). p.number) qs ≡ map (λ (p : Token N). p.number) ps → IsNumberOf ps n → IsNumberOf qs n
  same_numbers ps qs n is has = subst (λ (ns : List ℕ). Contains ns n) (sym is) has

-- a list whose slice was written whole
pub written_back : {A : Type 0} (xs ys : List A) (n : ℕ) → length ys ≡ length xs → n ≡ length xs → take n (ys ++ drop (length ys) xs) ≡ ys
written_back xs ys n len count = ap (λ zs. take n (ys ++ zs)) (drop_all (length ys) xs (omega arith)) ∙ ap (take n) (append-nil ys) ∙ take_all n ys (omega arith)

module _ {A B : Type 0} where
  -- lists that agree under f at each place
  pub same_mapped : (f : A → B) (xs ys : List A) → length ys ≡ length xs → ((i : ℕ) (d : A) → i < length xs → f (get_or ys i d) ≡ f (get_or xs i d)) → map f ys ≡ map f xs
  same_mapped f [] [] len each = refl
  same_mapped f [] (y ∷ ys) len each = absurd (omega arith)
  same_mapped f (x ∷ xs) [] len each = absurd (omega arith)
  same_mapped f (x ∷ xs) (y ∷ ys) len each = ap₂ (λ (z : B) (zs : List B). z ∷ zs) (each 0 x (omega arith)) (same_mapped f xs ys (omega arith) (λ i d h. each (suc i) d (omega arith)))
