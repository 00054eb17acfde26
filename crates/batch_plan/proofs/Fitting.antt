-- A task's layout fits where it has room: each address tells the segment that may take it.
use Rattle.std.proofs.Common.{◌≡◌, ℕ, zero, suc, ◌+◌, ◌-◌, ◌<◌, ◌≤◌, ◌≢◌, true, false, ltb, if◌then◌else◌, List, [], ◌∷◌, drop, length, slice_index, sum, refl, sym, ap, subst, ◌∙◌, arith, length-drop, get_or-drop}
use Rattle.std.proofs.lemmas.Bool.Decides.{nat_tests}
use Rattle.std.proofs.lemmas.List.{get_or_default}
use Rattle.std.proofs.lemmas.List.Sums.{sum_by-cons}
use Rattle.cairo_model.specs.Pie.Layouts.{Fits, IsInBounds, base_of}
use Rattle.cairo_model.specs.Pie.Records.{AreSizes}
use Rattle.batch_plan.specs.Parts.{BatchParts, own_instances, taken_by}
use Rattle.batch_plan.specs.Plans.{bases_on, task_bases}
use Rattle.batch_plan.proofs.Rooms.{Room}

-- ---- segments one after the other

pub bases_above : (base : ℕ) (zs : List ℕ) (i : ℕ) → i < length zs → base ≤ slice_index (bases_on base zs) i
unfolding bases_on
bases_above base [] i lt = absurd (omega (arith, lt))
bases_above base (z ∷ zs) zero lt = omega arith
bases_above base (z ∷ zs) (suc i) lt = let h = bases_above (base + z) zs i (omega (arith, lt)) in omega (arith, h)

pub bases_below : (base : ℕ) (zs : List ℕ) (i : ℕ) → i < length zs → slice_index (bases_on base zs) i + slice_index zs i ≤ base + sum zs
unfolding bases_on
bases_below base [] i lt = absurd (omega (arith, lt))
bases_below base (z ∷ zs) zero lt = let e = sum_by-cons (λ (x : ℕ). x) z zs in omega (arith, e)
bases_below base (z ∷ zs) (suc i) lt =
    let h = bases_below (base + z) zs i (omega (arith, lt)) in
    let e = sum_by-cons (λ (x : ℕ). x) z zs in
    omega (arith, h, e)

bases_on_count : (base : ℕ) (zs : List ℕ) → length (bases_on base zs) ≡ length zs
unfolding bases_on
bases_on_count base [] = refl
bases_on_count base (z ∷ zs) = ap suc (bases_on_count (base + z) zs)

unfoldable owner_on : ℕ → List ℕ → ℕ → ℕ
owner_on base [] a = 0
owner_on base (z ∷ zs) a = if ltb a (base + z) then 0 else suc (owner_on (base + z) zs a)

pub below_is : (a b x y : ℕ) → a < b → (if ltb a b then x else y) ≡ x
below_is a b x y lt = let e : ltb a b ≡ true = grind (arith, nat_tests, lt) in rw e refl

pub above_is : (a b x y : ℕ) → b ≤ a → (if ltb a b then x else y) ≡ y
above_is a b x y le = let e : ltb a b ≡ false = grind (arith, nat_tests, le) in rw e refl

owns_on : (base : ℕ) (zs : List ℕ) (i o : ℕ) → i < length zs → o < slice_index zs i → owner_on base zs (slice_index (bases_on base zs) i + o) ≡ i
unfolding bases_on owner_on
owns_on base [] i o lt inside = absurd (omega (arith, lt))
owns_on base (z ∷ zs) zero o lt inside = below_is (base + o) (base + z) 0 (suc (owner_on (base + z) zs (base + o))) (omega (arith, inside))
owns_on base (z ∷ zs) (suc i) o lt inside =
    let a = slice_index (bases_on (base + z) zs) i + o in
    let h = bases_above (base + z) zs i (omega (arith, lt)) in
    above_is a (base + z) 0 (suc (owner_on (base + z) zs a)) (omega (arith, h)) ∙ ap suc (owns_on (base + z) zs i o (omega (arith, lt)) inside)

-- ---- a task's segments

module _ (sizes : List ℕ) (are : AreSizes sizes) (p : BatchParts) (o r h g e : ℕ) (room : Room sizes p o r h g e) where
  abbrev zs : List ℕ
  zs = drop 7 sizes

  abbrev pub others_from : ℕ
  others_from = p.program + slice_index sizes 0 + 3

  abbrev bases : List ℕ
  bases = task_bases p sizes

  abbrev owner : ℕ → ℕ
  owner a = if ltb a o then 1 else (if ltb a r then 2 else (if ltb a h then 3 else (if ltb a g then 4 else (if ltb a others_from then 0 else 7 + owner_on others_from zs a))))

  others_count : length zs ≡ length sizes - 7
  others_count = length-drop 7 sizes

  pub bases_follow : (i : ℕ) → base_of bases (7 + i) ≡ slice_index (bases_on others_from zs) i
  bases_follow i = sym (get_or-drop 7 bases i 0)

  pub sizes_follow : (i : ℕ) → slice_index sizes (7 + i) ≡ slice_index zs i
  sizes_follow i = sym (get_or-drop 7 sizes i 0)

  -- where a segment from 7 on lies
  pub record Other (s : ℕ) : Type 0 where
    pub from : others_from ≤ base_of bases s
    pub to : base_of bases s + slice_index sizes s ≤ p.program + slice_index sizes 0 + 3 + sum zs

  pub other : (i : ℕ) → 7 + i < length sizes → Other (7 + i)
  other i lt =
      let n = others_count in
      let at = bases_follow i in
      let big = sizes_follow i in
      let low = bases_above others_from zs i (omega (arith, lt, n)) in
      let high = bases_below others_from zs i (omega (arith, lt, n)) in
      record { from = omega (arith, at, low); to = omega (arith, at, big, high) }

  owns_other : (i k : ℕ) → 7 + i < length sizes → k < slice_index sizes (7 + i) → owner (base_of bases (7 + i) + k) ≡ 7 + i
  owns_other i k lt inside =
      let n = others_count in
      let inside_rest : i < length zs = omega (arith, lt, n) in
      let below : k < slice_index zs i = subst (λ (x : ℕ). k < x) (sizes_follow i) inside in
      let a = slice_index (bases_on others_from zs) i + k in
      let l = bases_above others_from zs i inside_rest in
      let b = room.output_from in let b2 = room.output_to in let c = room.range_from in let c2 = room.range_to in let d = room.hash_from in let d2 = room.hash_to in let f = room.program_from in
      ap (λ x. owner (x + k)) (bases_follow i)
      ∙ above_is a o 1 _ (omega (arith, l, b, b2, c, c2, d, d2, f)) ∙ above_is a r 2 _ (omega (arith, l, c, c2, d, d2, f)) ∙ above_is a h 3 _ (omega (arith, l, d, d2, f))
      ∙ above_is a g 4 _ (omega (arith, l, f)) ∙ above_is a others_from 0 _ (omega (arith, l)) ∙ ap (λ x. 7 + x) (owns_on others_from zs i k inside_rest below)

  owns : (s k : ℕ) → s < length sizes → k < taken_by sizes s → owner (base_of bases s + k) ≡ s
  owns zero k lt inside =
      let b = room.output_from in let b2 = room.output_to in let c = room.range_from in let c2 = room.range_to in let d = room.hash_from in let d2 = room.hash_to in let f = room.program_from in
      above_is (p.program + k) o 1 _ (omega (arith, b, b2, c, c2, d, d2, f)) ∙ above_is (p.program + k) r 2 _ (omega (arith, c, c2, d, d2, f)) ∙ above_is (p.program + k) h 3 _ (omega (arith, d, d2, f))
      ∙ above_is (p.program + k) g 4 _ (omega (arith, f)) ∙ below_is (p.program + k) others_from 0 _ (omega (arith, inside))
  owns (suc zero) k lt inside = let b = room.frame_to in below_is _ o 1 _ (omega (arith, b, inside))
  owns (suc (suc zero)) k lt inside = let b = room.output_from in let c = room.output_to in
      above_is (p.output + 9 + k) o 1 _ (omega (arith, b)) ∙ below_is _ r 2 _ (omega (arith, c, inside))
  owns (suc (suc (suc zero))) k lt inside = let b = room.output_from in let b2 = room.output_to in let c = room.range_from in let d = room.range_to in
      above_is (p.range + k) o 1 _ (omega (arith, b, b2, c)) ∙ above_is (p.range + k) r 2 _ (omega (arith, c)) ∙ below_is _ h 3 _ (omega (arith, d, inside))
  owns (suc (suc (suc (suc zero)))) k lt inside =
      let b = room.output_from in let b2 = room.output_to in let c = room.range_from in let c2 = room.range_to in let d = room.hash_from in let f = room.hash_to in
      let a = p.hash + own_instances (slice_index sizes 0) + k in
      above_is a o 1 _ (omega (arith, b, b2, c, c2, d)) ∙ above_is a r 2 _ (omega (arith, c, c2, d)) ∙ above_is a h 3 _ (omega (arith, d)) ∙ below_is _ g 4 _ (omega (arith, f, inside))
  owns (suc (suc (suc (suc (suc zero))))) k lt inside = let n = are.no_return_fp in absurd (omega (arith, n, inside))
  owns (suc (suc (suc (suc (suc (suc zero)))))) k lt inside = let n = are.no_return_pc in absurd (omega (arith, n, inside))
  owns (suc (suc (suc (suc (suc (suc (suc i))))))) k lt inside = moved (suc (suc (suc (suc (suc (suc (suc i))))))) (omega arith) lt inside
    where
      moved : (s : ℕ) → 7 + i ≡ s → s < length sizes → k < slice_index sizes s → owner (base_of bases s + k) ≡ s
      moved s is lt inside = subst (λ (x : ℕ). owner (base_of bases x + k) ≡ x) is
          (owns_other i k (omega (arith, is, lt)) (subst (λ (x : ℕ). k < slice_index sizes x) (sym is) inside))

  one_each : length bases ≡ length sizes
  one_each = let n = others_count in let k = bases_on_count others_from zs in let many = are.at_least in omega (arith, n, k, many)

  -- the parts begin above 0 and below the end of all
  low : (1 ≤ o) × (1 ≤ r) × (1 ≤ h) × (1 ≤ g)
  low =
      let a = room.frame_from in let b = room.frame_to in let c = room.output_from in let d = room.output_to in let f = room.range_from in let i = room.range_to in let j = room.hash_from in let k = room.hash_to in
      (omega (arith, a, b), omega (arith, c, d), omega (arith, c, d, f, i), omega (arith, c, d, f, i, j, k))

  high : (o ≤ e) × (r ≤ e) × (h ≤ e) × (g ≤ e)
  high =
      let c = room.output_from in let d = room.output_to in let f = room.range_from in let i = room.range_to in let j = room.hash_from in let k = room.hash_to in let l = room.program_from in let m = room.program_to in
      (omega (arith, c, d, f, i, j, k, l, m), omega (arith, f, i, j, k, l, m), omega (arith, j, k, l, m), omega (arith, l, m))

  bounded_by : (a limit : ℕ) → 1 ≤ a → a ≤ limit → limit ≤ e → IsInBounds a
  bounded_by a limit some le most = let l = room.low in (some, omega (arith, le, most, l))

  bounded : (i : ℕ) → i < length sizes → IsInBounds (base_of bases i)
  bounded zero lt = let a = low.3 in let b = room.program_from in let c = room.program_to in bounded_by p.program e (omega (arith, a, b)) (omega (arith, c)) (omega arith)
  bounded (suc zero) lt = let a = room.frame_from in let b = room.frame_to in bounded_by _ o (omega (arith, a)) (omega (arith, b)) high.0
  bounded (suc (suc zero)) lt = let b = room.output_to in bounded_by _ r (omega arith) (omega (arith, b)) high.1
  bounded (suc (suc (suc zero))) lt = let a = low.1 in let b = room.range_from in let c = room.range_to in bounded_by _ h (omega (arith, a, b)) (omega (arith, c)) high.2
  bounded (suc (suc (suc (suc zero)))) lt = let b = room.hash_to in bounded_by _ g (omega arith) (omega (arith, b)) high.3
  bounded (suc (suc (suc (suc (suc zero))))) lt = let a = room.frame_from in let b = room.frame_to in bounded_by _ o (omega (arith, a)) (omega (arith, b)) high.0
  bounded (suc (suc (suc (suc (suc (suc zero)))))) lt = (omega arith, omega arith)
  bounded (suc (suc (suc (suc (suc (suc (suc i))))))) lt =
      let there = other i (omega (arith, lt)) in
      let f = there.from in let t = there.to in let c = room.program_to in
      let is : 7 + i ≡ suc (suc (suc (suc (suc (suc (suc i)))))) = omega arith in
      subst (λ (x : ℕ). IsInBounds (base_of bases x)) is (bounded_by _ e (omega (arith, f)) (omega (arith, t, c)) (omega arith))

  taken_more : (s k : ℕ) → k < slice_index sizes s → k < taken_by sizes s
  taken_more zero k lt = omega (arith, lt)
  taken_more (suc s) k lt = lt

  pub zeros_fit : (s t : ℕ) → s < length sizes → t < length sizes → s ≢ t → (k q : ℕ) → k < taken_by sizes s → q < taken_by sizes t → base_of bases s + k ≢ base_of bases t + q
  zeros_fit s t here there differ k q inside inside' same = differ (sym (owns s k here inside) ∙ ap owner same ∙ owns t q there inside')

  pub fits_there : Fits bases sizes
  fits_there = record {
    one_each = one_each;
    in_bounds = λ i d lt. let n = one_each in subst IsInBounds (get_or_default bases i 0 d lt) (bounded i (omega (arith, lt, n)));
    apart = λ s here t there differ k q inside inside' same. zeros_fit s t here there differ k q (taken_more s k inside) (taken_more t q inside') same;
  }
