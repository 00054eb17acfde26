-- What `find` finds, by the elements of a list.
use Rattle.std.proofs.Common.{◌≡◌, ℕ, zero, suc, ◌<◌, Bool, true, false, if◌then◌else◌, List, [], ◌∷◌, length, map, get_or, Option, Some, None, option_map, refl, sym, ap, ◌∙◌, arith}
use Rattle.std.specs.List.{find, Contains}
use Rattle.std.specs.List.Sorted.{IsStrictlyIncreasing}
use Rattle.std.proofs.lemmas.List.Elements.{Contains-get_or}
use Rattle.std.proofs.lemmas.List.{get_or-map, length-map}
use Rattle.cairo_model.proofs.Lists.{at_some}
use Rattle.cairo_model.proofs.Searching.{TellsKey, key_is, found_at}
use Rattle.cairo_model.proofs.Outcomes.{some_is}

pub option_map_gives : {X Y R : Type 0} (f : X → Y) (o : Option X) (y : Y) → option_map f o ≡ Some y → ((x : X) → o ≡ Some x → f x ≡ y → R) → R
option_map_gives f (Some x) y e go = go x refl (some_is (f x) y e)
option_map_gives f None y e go = absurd (cc)

pub in_tail : {X : Type 0} (y x : X) (xs : List X) → Contains xs x → Contains (y ∷ xs) x
in_tail y x xs at = (suc at.0, omega (arith, at.1), at.2)

-- an element is the first, or one of the rest
pub in_list : {X R : Type 0} (y x : X) (xs : List X) (k : ℕ) → k < length (y ∷ xs) → get_or (y ∷ xs) k x ≡ x → (y ≡ x → R) → (Contains xs x → R) → R
in_list y x xs zero lt is first later = first is
in_list y x xs (suc k) lt is first later = later (k, omega (arith, lt), is)

by_test : {X R : Type 0} (b : Bool) (w v : X) (o : Option X) → (if b then Some w else o) ≡ Some v → (b ≡ true → w ≡ v → R) → (b ≡ false → o ≡ Some v → R) → R
by_test true w v o e same differ = same refl (some_is w v e)
by_test false w v o e same differ = differ refl e

pub record IsFoundIn {X : Type 0} (p : X → Bool) (xs : List X) (x : X) : Type 0 where
  pub stands : Contains xs x
  pub passes : p x ≡ true

pub find_gives : {X : Type 0} (p : X → Bool) (xs : List X) (x : X) → find p xs ≡ Some x → IsFoundIn p xs x
find_gives p [] x e = absurd (cc)
find_gives p (y ∷ xs) x e = by_test (p y) y x (find p xs) e
    (λ passes same. record { stands = (0, omega arith, same); passes = sym (ap p same) ∙ passes })
    (λ fails rest. let later = find_gives p xs x rest in record { stands = in_tail y x xs later.stands; passes = later.passes })

-- where keys rise, an element is found by a test that tells its key
pub found_in : {X : Type 0} (key : X → ℕ) (p : X → Bool) (k : ℕ) (xs : List X) → TellsKey key p k xs → IsStrictlyIncreasing (map key xs) → (x : X) → Contains xs x → key x ≡ k → find p xs ≡ Some x
found_in key p k xs tells rise x stands same =
    found_at key p k xs tells rise stands.0 x
    (record { in_range = omega (arith, stands.1, length-map xs key); has_key = key_is key xs stands.0 x stands.1 ∙ ap key stands.2 ∙ same })
    ∙ ap Some stands.2

pub contains_map : {X Y : Type 0} (f : X → Y) (xs : List X) (x : X) → Contains xs x → Contains (map f xs) (f x)
contains_map f xs x stands = (stands.0, omega (arith, stands.1, length-map xs f), get_or-map f xs stands.0 x (f x) stands.1 ∙ ap f stands.2)

pub record IsImageIn {X Y : Type 0} (f : X → Y) (xs : List X) (y : Y) : Type 0 where
  pub from : X
  pub stands : Contains xs from
  pub is : f from ≡ y

pub contains_from_map : {X Y : Type 0} (f : X → Y) (xs : List X) (y : Y) → Contains (map f xs) y → IsImageIn f xs y
contains_from_map f xs y stands =
    let inside : stands.0 < length xs = omega (arith, stands.1, length-map xs f) in
    at_some xs stands.0 inside (λ d.
    record { from = get_or xs stands.0 d; stands = Contains-get_or xs stands.0 d inside; is = sym (get_or-map f xs stands.0 d y inside) ∙ stands.2 })
