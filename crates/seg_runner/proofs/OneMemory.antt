-- Cells in order are told by the memory that they are.
use Rattle.std.proofs.Common.{◌≡◌, ℕ, suc, ◌+◌, ◌<◌, true, List, [], ◌∷◌, length, slice_index, Option, Some, refl, sym, ap, subst, ◌∙◌, arith}
use Rattle.std.specs.List.{Contains, find}
use Rattle.std.proofs.lemmas.List.{get_or-map, length-map}
use Rattle.std.proofs.lemmas.List.Kept.{AllPairs-from_increasing}
use Rattle.cairo_model.proofs.Chains.{both_left, both_right}
use Rattle.cairo_model.proofs.Finding.{find_gives, in_list, in_tail, option_map_gives}
use Rattle.cairo_model.proofs.NumberTests.{eq_is}
use Rattle.cairo_model.specs.Machine.Values.{Datum, place}
use Rattle.cairo_model.specs.Pie.Records.{MemoryCell, Rise, memory_of, place_numbers, stands_at, value_at}
use Rattle.seg_runner.proofs.MadePies.{found_there, key_of}

-- ---- the same cells

one_cell : (x c : MemoryCell) → stands_at c.segment c.offset x ≡ true → x.value ≡ c.value → x ≡ c
one_cell x c at value =
    let segment = eq_is x.segment c.segment (both_left _ _ at) in
    let offset = eq_is x.offset c.offset (both_right _ _ at) in
    λ i. record { segment = segment i; offset = offset i; value = value i }

stands_there : (ys : List MemoryCell) (c : MemoryCell) → value_at ys c.segment c.offset ≡ Some c.value → Contains ys c
stands_there ys c e =
    option_map_gives (λ (x : MemoryCell). x.value) (find (stands_at c.segment c.offset) ys) c.value e (λ x is value.
    let found = find_gives (stands_at c.segment c.offset) ys x is in
    subst (Contains ys) (one_cell x c found.passes value) found.stands)

same_cells : (xs ys : List MemoryCell) → Rise xs → memory_of xs ≡ memory_of ys → (c : MemoryCell) → Contains xs c → Contains ys c
same_cells xs ys rise same c at =
    let here = subst (λ (x : MemoryCell). value_at xs x.segment x.offset ≡ Some x.value) at.2 (found_there xs rise at.0 c at.1) in
    stands_there ys c (sym (ap (λ (m : Datum → Option Datum). m (place c.segment c.offset)) same) ∙ here)

-- ---- the same order

rise_rest : (x : MemoryCell) (xs : List MemoryCell) → Rise (x ∷ xs) → Rise xs
rise_rest x xs rise k lt =
    let next : suc k + 1 ≡ suc (k + 1) = omega arith in
    subst (λ (n : ℕ). slice_index (place_numbers xs) k < slice_index (place_numbers (x ∷ xs)) n) next (rise (suc k) (omega (arith, lt)))

head_least : (x : MemoryCell) (xs : List MemoryCell) → Rise (x ∷ xs) → (c : MemoryCell) → Contains xs c → key_of x < key_of c
head_least x xs rise c at =
    let there : at.0 < length (place_numbers xs) = omega (arith, at.1, length-map xs key_of) in
    subst (λ (n : ℕ). key_of x < n) (get_or-map key_of xs at.0 c (key_of c) at.1 ∙ ap key_of at.2)
    (AllPairs-from_increasing (place_numbers (x ∷ xs)) rise 0 (suc at.0) (key_of c) (omega arith) (omega (arith, there)))

-- lists of the same cells begin with the same cell
module _ (x y : MemoryCell) (xs ys : List MemoryCell) (rise : Rise (x ∷ xs)) (to : (c : MemoryCell) → Contains (x ∷ xs) c → Contains (y ∷ ys) c) where
  same_head : Rise (y ∷ ys) → ((c : MemoryCell) → Contains (y ∷ ys) c → Contains (x ∷ xs) c) → x ≡ y
  same_head rise' from =
      let here = to x (0, omega arith, refl) in
      let back = from y (0, omega arith, refl) in
      in_list y x ys here.0 here.1 here.2 sym (λ behind.
      in_list x y xs back.0 back.1 back.2 (λ is. is) (λ behind'.
      absurd (omega (arith, head_least y ys rise' x behind, head_least x xs rise y behind'))))

  -- and a cell behind it is one behind it there too
  in_rest : x ≡ y → (c : MemoryCell) → Contains xs c → Contains ys c
  in_rest same c at =
      let there = to c (in_tail x c xs at) in
      in_list y c ys there.0 there.1 there.2
      (λ is. absurd (omega (arith, head_least x xs rise c at, ap key_of (same ∙ is))))
      (λ behind. behind)

one_rising : (xs ys : List MemoryCell) → Rise xs → Rise ys → ((c : MemoryCell) → Contains xs c → Contains ys c) → ((c : MemoryCell) → Contains ys c → Contains xs c) → xs ≡ ys
one_rising [] [] rise rise' to from = refl
one_rising [] (y ∷ ys) rise rise' to from = absurd (omega (arith, (from y (0, omega arith, refl)).1))
one_rising (x ∷ xs) [] rise rise' to from = absurd (omega (arith, (to x (0, omega arith, refl)).1))
one_rising (x ∷ xs) (y ∷ ys) rise rise' to from =
    let same : x ≡ y = same_head x y xs ys rise to rise' from in
    let rest : xs ≡ ys = one_rising xs ys (rise_rest x xs rise) (rise_rest y ys rise') (in_rest x y xs ys rise to same) (in_rest y x ys xs rise' from (sym same)) in
    λ i. same i ∷ rest i

pub one_list : (xs ys : List MemoryCell) → Rise xs → Rise ys → memory_of xs ≡ memory_of ys → xs ≡ ys
one_list xs ys rise rise' same = one_rising xs ys rise rise' (same_cells xs ys rise same) (same_cells ys xs rise' (sym same))
