-- What a binary search finds in a list whose keys rise, and what `find` finds there.
use Rattle.std.proofs.Common.{◌≡◌, ℕ, zero, suc, ◌<◌, ◌≤◌, Bool, true, false, List, [], ◌∷◌, length, map, get_or, Some, None, Result, Ok, Err, IfOk, IfErr, refl, sym, ap, subst, ◌∙◌, arith}
use Rattle.std.specs.List.{find}
use Rattle.std.specs.List.Sorted.{IsSearchInRange, IsBinarySearchResult, IsNonDecreasingBy, IsStrictlyIncreasing}
use Rattle.std.specs.Ordering.{nat_cmp, ordering_index}
use Rattle.std.proofs.lemmas.Cmp.{ranked}
use Rattle.std.proofs.lemmas.List.{get_or-map, length-map}
use Rattle.std.proofs.lemmas.List.Sorted.{IsNonDecreasingBy-from_default}
use Rattle.std.proofs.lemmas.List.Kept.{AllPairs-from_increasing}
use Rattle.std.proofs.lemmas.Bool.Decides.{nat_tests}
use Rattle.cairo_model.specs.Working.Keys.{IsKeyAt, IsGapFor}

-- an element of a list that has one
at_some : {X R : Type 0} (xs : List X) (i : ℕ) → i < length xs → (X → R) → R
at_some [] i lt go = absurd (omega arith)
at_some (x ∷ xs) i lt go = go x

module _ {X : Type 0} (key : X → ℕ) (xs : List X) where
  pub key_is : (i : ℕ) (d : X) → i < length xs → get_or (map key xs) i 0 ≡ key (get_or xs i d)
  key_is i d lt = get_or-map key xs i d 0 lt

  pub keys_rise : IsStrictlyIncreasing (map key xs) → (i j : ℕ) → i < j → j < length xs → get_or (map key xs) i 0 < get_or (map key xs) j 0
  keys_rise rise i j lt in_range = AllPairs-from_increasing (map key xs) rise i j 0 lt (omega (arith, length-map xs key))

module _ {X : Type 0} (key : X → ℕ) (xs : List X) (rise : IsStrictlyIncreasing (map key xs)) (k : ℕ) where
  comparisons_rise : X → IsNonDecreasingBy (λ x. ordering_index (nat_cmp (key x) k)) xs
  comparisons_rise d = IsNonDecreasingBy-from_default (λ x. ordering_index (nat_cmp (key x) k)) xs d (λ i j le in_range.
      let rises : key (get_or xs i d) ≤ key (get_or xs j d) =
      grind (arith, keys_rise key xs rise i j, key_is key xs i d, key_is key xs j d, λ (same : i ≡ j). ap (λ (n : ℕ). key (get_or xs n d)) same) in
      grind (arith, nat_tests))

  pub searched : (r : Result ℕ ℕ) → IsSearchInRange r (length xs) → IsBinarySearchResult (λ x. nat_cmp (key x) k) xs r
      → record { found : IfOk r (IsKeyAt (map key xs) k); absent : IfErr r (IsGapFor (map key xs) k) }
  searched (Ok at) in_range equal = record {
    found = record {
      in_range = omega (arith, in_range, length-map xs key);
      has_key = at_some xs at in_range (λ d. key_is key xs at d in_range ∙ ranked _ k _ (sym (equal d)));
    };
    absent = tt;
  }
  searched (Err at) in_range parted = record {
    found = tt;
    absent = record {
      in_range = omega (arith, in_range, length-map xs key);
      smaller_before = λ j lt. at_some xs j (omega arith) (λ d. rw (key_is key xs j d (omega arith)) (ranked _ k _ (sym ((parted (comparisons_rise d)).0 j d (omega arith) lt))));
      greater_after = λ j le lt.
          let inside : j < length xs = omega (arith, length-map xs key) in
          at_some xs j inside (λ d. rw (key_is key xs j d inside) (ranked _ k _ (sym ((parted (comparisons_rise d)).1 j d le inside))));
    };
  }

pub find_some : {X : Type 0} (p : X → Bool) (xs : List X) (i : ℕ) (d : X) → i < length xs → p (get_or xs i d) ≡ true → ((j : ℕ) → j < i → p (get_or xs j d) ≡ false) → find p xs ≡ Some (get_or xs i d)
find_some p [] i d lt is before = absurd (omega arith)
find_some p (x ∷ xs) zero d lt is before = rw is refl
find_some p (x ∷ xs) (suc i) d lt is before = rw (before 0 (omega arith)) (find_some p xs i d (omega arith) is (λ j below. before (suc j) (omega arith)))

pub find_none : {X : Type 0} (p : X → Bool) (xs : List X) → ((i : ℕ) (d : X) → i < length xs → p (get_or xs i d) ≡ false) → find p xs ≡ None
find_none p [] never = refl
find_none p (x ∷ xs) never = rw (never 0 x (omega arith)) (find_none p xs (λ i d lt. never (suc i) d (omega arith)))

-- A test that tells its key: it holds at one key, and there alone.
pub record TellsKey {X : Type 0} (key : X → ℕ) (p : X → Bool) (k : ℕ) (xs : List X) : Type 0 where
  pub here : (i : ℕ) (d : X) → i < length xs → key (get_or xs i d) ≡ k → p (get_or xs i d) ≡ true
  pub elsewhere : (i : ℕ) (d : X) → i < length xs → (key (get_or xs i d) ≡ k → ⊥) → p (get_or xs i d) ≡ false

module _ {X : Type 0} (key : X → ℕ) (p : X → Bool) (k : ℕ) (xs : List X) (tells : TellsKey key p k xs) (rise : IsStrictlyIncreasing (map key xs)) where
  pub found_at : (at : ℕ) (d : X) → IsKeyAt (map key xs) k at → find p xs ≡ Some (get_or xs at d)
  found_at at d is_at =
      let inside : at < length xs = omega (arith, is_at.in_range, length-map xs key) in
      find_some p xs at d inside (tells.here at d inside (sym (key_is key xs at d inside) ∙ is_at.has_key))
      (λ j lt.
      let in_list : j < length xs = omega arith in
      tells.elsewhere j d in_list (λ same. omega (arith, keys_rise key xs rise j at lt inside, key_is key xs j d in_list, is_at.has_key, same)))

  pub absent_at : (at : ℕ) → IsGapFor (map key xs) k at → find p xs ≡ None
  absent_at at gap = find_none p xs (λ i d lt. tells.elsewhere i d lt (λ same.
      let there = key_is key xs i d lt in
      let inside : i < length (map key xs) = omega (arith, length-map xs key) in
      absurd (grind (arith, gap.smaller_before i, λ (le : at ≤ i). gap.greater_after i le inside))))

-- ---- a list that is seen through a view of its elements

pub map_twice : {X Y Z : Type 0} (f : X → Y) (g : Y → Z) (xs : List X) → map g (map f xs) ≡ map (λ x. g (f x)) xs
map_twice f g [] = refl
map_twice f g (x ∷ xs) = ap (λ (ys : List _). g (f x) ∷ ys) (map_twice f g xs)

module _ {X Y : Type 0} (view : X → Y) (key : Y → ℕ) (xs : List X) (rise : IsStrictlyIncreasing (map key (map view xs))) (k : ℕ) where
  pub searched_view : (r : Result ℕ ℕ) → IsSearchInRange r (length xs) → IsBinarySearchResult (λ x. nat_cmp (key (view x)) k) xs r
      → record { found : IfOk r (IsKeyAt (map key (map view xs)) k); absent : IfErr r (IsGapFor (map key (map view xs)) k) }
  searched_view r in_range result =
      let same = map_twice view key xs in
      rw same (searched (λ (x : X). key (view x)) xs (subst IsStrictlyIncreasing same rise) k r in_range result)

  pub found_view : (p : Y → Bool) → TellsKey key p k (map view xs) → (at : ℕ) (d : X) → IsKeyAt (map key (map view xs)) k at → find p (map view xs) ≡ Some (view (get_or xs at d))
  found_view p tells at d is_at =
      let inside : at < length xs = omega (arith, is_at.in_range, length-map (map view xs) key, length-map xs view) in
      found_at key p k (map view xs) tells rise at (view d) is_at ∙ ap Some (get_or-map view xs at d (view d) inside)

  pub absent_view : (p : Y → Bool) → TellsKey key p k (map view xs) → (at : ℕ) → IsGapFor (map key (map view xs)) k at → find p (map view xs) ≡ None
  absent_view p tells at gap = absent_at key p k (map view xs) tells rise at gap
