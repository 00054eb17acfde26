-- Lists that grow at their end.
use Rattle.std.proofs.Common.{◌≡◌, ℕ, zero, suc, ◌+◌, ◌≤◌, Bool, true, false, cond, List, [], ◌∷◌, ◌++◌, length, map, sum, take, drop, refl, ap, ◌∙◌, arith}
use Rattle.std.specs.List.{range_with_len, sum_by}
use Rattle.batch_plan.proofs.Sums.{sum_more}
use Rattle.std.proofs.lemmas.List.{take-append-le, drop-append-le, length-drop}
use Rattle.std.proofs.lemmas.List.Sums.{sum_by-append}
use Rattle.std.specs.List.{filter}
use Rattle.std.proofs.lemmas.List.{append-nil}
use Rattle.std.proofs.lemmas.List.Elements.{filter-append}

one_or_none : {X : Type 0} (b : Bool) (x : X) (xs : List X) → xs ++ cond b (x ∷ []) [] ≡ cond b (xs ++ x ∷ []) xs
one_or_none true x xs = refl
one_or_none false x xs = append-nil xs

pub filter_more : {X : Type 0} (p : X → Bool) (xs : List X) (x : X) → filter p (xs ++ x ∷ []) ≡ cond (p x) (filter p xs ++ x ∷ []) (filter p xs)
filter_more p xs x = filter-append p xs (x ∷ []) ∙ one_or_none (p x) x (filter p xs)

pub range_suc : (a n : ℕ) → range_with_len a (suc n) ≡ range_with_len a n ++ (a + n) ∷ []
range_suc a zero = ap (λ (k : ℕ). k ∷ []) (omega arith)
range_suc a (suc n) = ap (λ (ks : List ℕ). a ∷ ks) (range_suc (a + 1) n ∙ ap (λ (k : ℕ). range_with_len (a + 1) n ++ k ∷ []) (omega arith))

pub sum_one : {X : Type 0} (f : X → ℕ) (xs : List X) (x : X) → sum_by f (xs ++ x ∷ []) ≡ sum_by f xs + f x
sum_one f xs x = omega (arith, sum_by-append f xs (x ∷ []))

pub sum_cons : {X : Type 0} (f : X → ℕ) (x : X) (xs : List X) → sum_by f (x ∷ xs) ≡ f x + sum_by f xs
sum_cons f x xs = omega (arith, sum_by-append f (x ∷ []) xs)

-- a stretch of a list that is whole within its beginning
pub stretch_more : {X : Type 0} (n k : ℕ) (xs ys : List X) → k + n ≤ length xs → take n (drop k (xs ++ ys)) ≡ take n (drop k xs)
stretch_more n k xs ys le =
    ap (take n) (drop-append-le k xs ys (omega arith)) ∙ take-append-le n (drop k xs) ys (omega (arith, length-drop k xs))

-- the sum over a list with one more
pub total_more : {X : Type 0} (f : X → ℕ) (xs : List X) (x : X) → sum (map f (xs ++ x ∷ [])) ≡ sum (map f xs) + f x
total_more f [] x = omega (arith, sum_more f x [])
total_more f (y ∷ xs) x = omega (arith, total_more f xs x, sum_more f y (xs ++ x ∷ []), sum_more f y xs)
