-- Lists of field numbers are compared as their numbers are.
use Rattle.std.proofs.Common.{◌≡◌, nat_eq, List, [], ◌∷◌, ◌&&◌, map, refl, ap}
use Rattle.std.specs.Cmp.Lexicographic.{pointwise, slice_cmp}
use Rattle.std.specs.Ordering.{nat_cmp, ordering_then}
use Rattle.goldi_field.specs.declared.Felt.{Felt}

pub same_order : (xs ys : List Felt) → slice_cmp (λ x y. nat_cmp x.number y.number) xs ys ≡ slice_cmp nat_cmp (map (λ f. f.number) xs) (map (λ f. f.number) ys)
same_order [] [] = refl
same_order [] (y ∷ ys) = refl
same_order (x ∷ xs) [] = refl
same_order (x ∷ xs) (y ∷ ys) = ap (ordering_then (nat_cmp x.number y.number)) (same_order xs ys)

pub same_numbers : (xs ys : List Felt) → pointwise (λ x y. nat_eq x.number y.number) xs ys ≡ pointwise nat_eq (map (λ f. f.number) xs) (map (λ f. f.number) ys)
same_numbers [] [] = refl
same_numbers [] (y ∷ ys) = refl
same_numbers (x ∷ xs) [] = refl
same_numbers (x ∷ xs) (y ∷ ys) = ap (λ b. nat_eq x.number y.number && b) (same_numbers xs ys)
