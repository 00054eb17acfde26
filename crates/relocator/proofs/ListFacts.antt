-- Facts on lists that are seen through a view of their elements.
use Rattle.std.proofs.Common.{ℕ, ◌<◌, List, length, map, All, Result, Ok, Err, IfOk, subst, arith}
use Rattle.std.specs.List.Sorted.{IsNonDecreasingBy, IsNonDecreasing}
use Rattle.std.proofs.lemmas.List.{get_or-map, length-map}
use Rattle.cairo_model.proofs.Lists.{at_some}

pub all_from_map : {X Y : Type 0} (P : Y → Type 0) (f : X → Y) (xs : List X) → All P (map f xs) → All (λ x. P (f x)) xs
all_from_map P f xs all k d lt = subst P (get_or-map f xs k d (f d) lt) (all k (f d) (omega (arith, length-map xs f)))

pub non_decreasing_map : {X : Type 0} (key : X → ℕ) (xs : List X) → IsNonDecreasingBy key xs → IsNonDecreasing (map key xs)
non_decreasing_map key xs up i j d le lt =
    let there : j < length xs = omega (arith, length-map xs key) in
    let here : i < length xs = omega arith in
    at_some xs j there (λ e. rw (get_or-map key xs i e d here, get_or-map key xs j e d there) (up i j e le there))

pub if_ok_both : {T E : Type 0} (r : Result T E) (P Q R : T → Type 0) → IfOk r P → IfOk r Q → ((x : T) → P x → Q x → R x) → IfOk r R
if_ok_both (Ok x) P Q R p q both = both x p q
if_ok_both (Err e) P Q R p q both = tt
