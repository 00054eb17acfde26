-- Sums over the first elements of a list.
use Rattle.std.proofs.Common.{◌≡◌, ℕ, zero, suc, ◌+◌, ◌*◌, ◌≤◌, List, [], ◌∷◌, length, map, sum, take, slice_get, Some, All, arith}
use Rattle.std.proofs.lemmas.List.Sums.{sum_by-cons}

pub sum_more : {X : Type 0} (f : X → ℕ) (x : X) (xs : List X) → sum (map f (x ∷ xs)) ≡ f x + sum (map f xs)
sum_more f x xs = sum_by-cons (λ (y : ℕ). y) (f x) (map f xs)

pub sum_upto : {X : Type 0} (f : X → ℕ) (n m : ℕ) (xs : List X) → n ≤ m → sum (map f (take n xs)) ≤ sum (map f (take m xs))
sum_upto f zero m xs le = omega arith
sum_upto f (suc n) zero xs le = absurd (omega (arith, le))
sum_upto f (suc n) (suc m) [] le = omega arith
sum_upto f (suc n) (suc m) (x ∷ xs) le =
    let e = sum_upto f n m xs (omega (arith, le)) in
    let g = sum_more f x (take n xs) in
    let h = sum_more f x (take m xs) in
    omega (arith, e, g, h)

pub sum_part : {X : Type 0} (f : X → ℕ) (n : ℕ) (xs : List X) → sum (map f (take n xs)) ≤ sum (map f xs)
sum_part f zero xs = omega arith
sum_part f (suc n) [] = omega arith
sum_part f (suc n) (x ∷ xs) =
    let e = sum_part f n xs in
    let g = sum_more f x (take n xs) in
    let h = sum_more f x xs in
    omega (arith, e, g, h)

pub sum_next : {X : Type 0} (f : X → ℕ) (n : ℕ) (xs : List X) (x : X) → slice_get xs n ≡ Some x → sum (map f (take (suc n) xs)) ≡ sum (map f (take n xs)) + f x
sum_next f n [] x there = absurd (cc)
sum_next f zero (y ∷ ys) x there =
    let same : f y ≡ f x = cc in
    let g = sum_more f y [] in
    omega (arith, g, same)
sum_next f (suc n) (y ∷ ys) x there =
    let e = sum_next f n ys x there in
    let g = sum_more f y (take n ys) in
    let h = sum_more f y (take (suc n) ys) in
    omega (arith, e, g, h)

pub sum_few : {X : Type 0} (P : X → Type 0) (f : X → ℕ) (limit : ℕ) → ((x : X) → P x → f x ≤ limit) → (xs : List X) → All P xs → sum (map f xs) ≤ length xs * limit
sum_few P f limit each [] all = omega arith
sum_few P f limit each (x ∷ xs) all =
    let e = sum_few P f limit each xs (λ i d lt. all (suc i) d (omega (arith, lt))) in
    let g = sum_more f x xs in
    let h = each x (all zero x (omega arith)) in
    omega (arith, e, g, h)
