-- Writing the elements of a list one after the other, as a loop does.
use Rattle.std.proofs.Common.{◌≡◌, ℕ, ◌+◌, ◌<◌, List, [], ◌∷◌, ◌++◌, length, map, take, get_or, sym, ap, ◌∙◌, append_assoc}
use Rattle.std.specs.List.{flat_map}
use Rattle.std.proofs.lemmas.List.{map_more, flat_map_more}

-- what was written is the front, the count and the elements so far, and one more element follows
pub one_more : {X Y : Type 0} (view : X → Y) (bytes : Y → List ℕ) (front count out later : List ℕ) (xs : List X) (i : ℕ) (x : X) → i < length xs → x ≡ get_or xs i x
    → out ≡ front ++ (count ++ flat_map bytes (map view (take i xs))) → later ≡ out ++ bytes (view x) → later ≡ front ++ (count ++ flat_map bytes (map view (take (i + 1) xs)))
one_more {X} {Y} view bytes front count out later xs i x lt is so_far more =
    let before = map view (take i xs) in
    let after : map view (take (i + 1) xs) ≡ before ++ view x ∷ [] = map_more view xs i x lt ∙ ap (λ (y : X). before ++ view y ∷ []) (sym is) in
    more
    ∙ ap (λ (o : List ℕ). o ++ bytes (view x)) (so_far ∙ sym (append_assoc front count (flat_map bytes before)))
    ∙ flat_map_more bytes (front ++ count) before (view x)
    ∙ append_assoc front count (flat_map bytes (before ++ view x ∷ []))
    ∙ ap (λ (ys : List Y). front ++ (count ++ flat_map bytes ys)) (sym after)
