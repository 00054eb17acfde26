-- A task's layout fits: each address tells the segment that may stand there.
use Rattle.std.proofs.Common.{◌≡◌, ℕ, zero, suc, ◌+◌, ◌-◌, ◌*◌, ◌<◌, ◌≤◌, true, false, ltb, if◌then◌else◌, List, [], ◌∷◌, drop, length, slice_index, refl, sym, ap, subst, ◌∙◌, arith, length-drop}
use Rattle.std.proofs.lemmas.Bool.Decides.{nat_tests}
use Rattle.std.proofs.lemmas.List.{get_or_default}
use Rattle.cairo_model.specs.Pie.Layouts.{Fits, IsInBounds, base_of}
use Rattle.batch_plan.specs.Parts.{BatchParts}
use Rattle.batch_plan.specs.Plans.{bases_on}
use Rattle.batch_runner.specs.Working.Tasks.{Task}
use Rattle.batch_runner.specs.Layout.{bases_at, more_turns, size}
use Rattle.batch_runner.specs.Working.Rooms.{HasRoom}
use Rattle.batch_runner.proofs.PartsRise.{bases_follow, sizes_follow}
use Rattle.batch_runner.proofs.HavingCells.{bases_below}

unfoldable owner_on : ℕ → List ℕ → ℕ → ℕ
owner_on base [] a = 0
owner_on base (z ∷ zs) a = if ltb a (base + z) then 0 else suc (owner_on (base + z) zs a)

pub bases_above : (base : ℕ) (zs : List ℕ) (i : ℕ) → i < length zs → base ≤ slice_index (bases_on base zs) i
unfolding bases_on
bases_above base [] i lt = absurd (omega (arith, lt))
bases_above base (z ∷ zs) zero lt = omega arith
bases_above base (z ∷ zs) (suc i) lt = let h = bases_above (base + z) zs i (omega (arith, lt)) in omega (arith, h)

pub below_is : (a b x y : ℕ) → a < b → (if ltb a b then x else y) ≡ x
below_is a b x y lt = let e : ltb a b ≡ true = grind (arith, nat_tests, lt) in rw e refl

pub above_is : (a b x y : ℕ) → b ≤ a → (if ltb a b then x else y) ≡ y
above_is a b x y le = let e : ltb a b ≡ false = grind (arith, nat_tests, le) in rw e refl

owns_on : (base : ℕ) (zs : List ℕ) (i o : ℕ) → i < length zs → o < slice_index zs i → owner_on base zs (slice_index (bases_on base zs) i + o) ≡ i
unfolding bases_on owner_on
owns_on base [] i o lt inside = absurd (omega (arith, lt))
owns_on base (z ∷ zs) zero o lt inside = below_is (base + o) (base + z) 0 (suc (owner_on (base + z) zs (base + o))) (omega (arith, inside))
owns_on base (z ∷ zs) (suc i) o lt inside =
    let a = slice_index (bases_on (base + z) zs) i + o in
    let h = bases_above (base + z) zs i (omega (arith, lt)) in
    above_is a (base + z) 0 (suc (owner_on (base + z) zs a)) (omega (arith, h)) ∙ ap suc (owns_on (base + z) zs i o (omega (arith, lt)) inside)

module _ (t : Task) (p : BatchParts) (room : HasRoom t.checked p) where
  abbrev zs : List ℕ
  zs = drop 7 t.checked.pie.sizes

  abbrev rest : ℕ
  rest = p.program + size t.checked 0 + 3

  abbrev owner : ℕ → ℕ
  owner a = if ltb a p.output then 1 else (if ltb a p.range then 2 else (if ltb a p.hash then 3 else (if ltb a p.program then 4 else (if ltb a rest then 0 else 7 + owner_on rest zs a))))

  many : 7 ≤ length t.checked.pie.sizes
  many = t.accepted.rules.are_sizes.at_least

  count_others : length zs ≡ length t.checked.pie.sizes - 7
  count_others = length-drop 7 t.checked.pie.sizes

  owns_other : (i o : ℕ) → 7 + i < length t.checked.pie.sizes → o < size t.checked (7 + i) → owner (base_of (bases_at t.checked p) (7 + i) + o) ≡ 7 + i
  owns_other i o lt inside =
      let n = count_others in
      let inside_rest : i < length zs = omega (arith, lt, n) in
      let below : o < slice_index zs i = subst (λ (x : ℕ). o < x) (sizes_follow t i) inside in
      let at : base_of (bases_at t.checked p) (7 + i) ≡ slice_index (bases_on rest zs) i = bases_follow t p i in
      let a = slice_index (bases_on rest zs) i + o in
      let h = bases_above rest zs i inside_rest in
      let r = room.turn_room in let q = room.output_room in let u = room.range_room in let w = room.hash_room in
      ap (λ x. owner (x + o)) at
      ∙ above_is a p.output 1 _ (omega (arith, h, r, q, u, w)) ∙ above_is a p.range 2 _ (omega (arith, h, u, w)) ∙ above_is a p.hash 3 _ (omega (arith, h, w))
      ∙ above_is a p.program 4 _ (omega (arith, h)) ∙ above_is a rest 0 _ (omega (arith, h)) ∙ ap (λ x. 7 + x) (owns_on rest zs i o inside_rest below)

  owns : (s o : ℕ) → s < length t.checked.pie.sizes → o < size t.checked s → owner (base_of (bases_at t.checked p) s + o) ≡ s
  owns zero o lt inside =
      let r = room.turn_room in let q = room.output_room in let u = room.range_room in let w = room.hash_room in
      above_is (p.program + o) p.output 1 _ (omega (arith, r, q, u, w)) ∙ above_is (p.program + o) p.range 2 _ (omega (arith, u, w)) ∙ above_is (p.program + o) p.hash 3 _ (omega (arith, w))
      ∙ above_is (p.program + o) p.program 4 _ (omega arith) ∙ below_is (p.program + o) rest 0 _ (omega (arith, inside))
  owns (suc zero) o lt inside = let r = room.turn_room in below_is _ p.output 1 _ (omega (arith, r, inside))
  owns (suc (suc zero)) o lt inside = let r = room.output_room in above_is (p.output + 9 + o) p.output 1 _ (omega arith) ∙ below_is _ p.range 2 _ (omega (arith, r, inside))
  owns (suc (suc (suc zero))) o lt inside = let q = room.output_room in let r = room.range_room in
      above_is (p.range + o) p.output 1 _ (omega (arith, q)) ∙ above_is (p.range + o) p.range 2 _ (omega arith) ∙ below_is _ p.hash 3 _ (omega (arith, r, inside))
  owns (suc (suc (suc (suc zero)))) o lt inside = let q = room.output_room in let r = room.range_room in let w = room.hash_room in
      let a = p.hash + 20 * (more_turns (size t.checked 0) + 2) + o in
      above_is a p.output 1 _ (omega (arith, q, r)) ∙ above_is a p.range 2 _ (omega (arith, r)) ∙ above_is a p.hash 3 _ (omega arith) ∙ below_is _ p.program 4 _ (omega (arith, w, inside))
  owns (suc (suc (suc (suc (suc zero))))) o lt inside = let e = t.accepted.rules.are_sizes.no_return_fp in absurd (omega (arith, e, inside))
  owns (suc (suc (suc (suc (suc (suc zero)))))) o lt inside = let e = t.accepted.rules.are_sizes.no_return_pc in absurd (omega (arith, e, inside))
  owns (suc (suc (suc (suc (suc (suc (suc i))))))) o lt inside = moved (suc (suc (suc (suc (suc (suc (suc i))))))) (omega arith) lt inside
    where
      moved : (s : ℕ) → 7 + i ≡ s → s < length t.checked.pie.sizes → o < size t.checked s → owner (base_of (bases_at t.checked p) s + o) ≡ s
      moved s e lt inside = subst (λ (x : ℕ). owner (base_of (bases_at t.checked p) x + o) ≡ x) e
          (owns_other i o (omega (arith, e, lt)) (subst (λ (x : ℕ). o < size t.checked x) (sym e) inside))

  bases_count : (base : ℕ) (zs : List ℕ) → length (bases_on base zs) ≡ length zs
  unfolding bases_on
  bases_count base [] = refl
  bases_count base (z ∷ zs) = ap suc (bases_count (base + z) zs)

  pub one_each : length (bases_at t.checked p) ≡ length t.checked.pie.sizes
  one_each = let n = count_others in let k = bases_count rest zs in let many = many in omega (arith, n, k, many)

  bounded : (i : ℕ) → i < length t.checked.pie.sizes → IsInBounds (base_of (bases_at t.checked p) i)
  bounded zero lt = let b = room.above_boot in let r = room.turn_room in let q = room.output_room in let u = room.range_room in let w = room.hash_room in let g = room.program_room in
      (omega (arith, b, r, q, u, w), omega (arith, g))
  bounded (suc zero) lt = let b = room.above_boot in let r = room.turn_room in let q = room.output_room in let u = room.range_room in let w = room.hash_room in let g = room.program_room in
      (omega (arith, b), omega (arith, r, q, u, w, g))
  bounded (suc (suc zero)) lt = let b = room.above_boot in let r = room.turn_room in let q = room.output_room in let u = room.range_room in let w = room.hash_room in let g = room.program_room in
      (omega arith, omega (arith, q, u, w, g))
  bounded (suc (suc (suc zero))) lt = let b = room.above_boot in let r = room.turn_room in let q = room.output_room in let u = room.range_room in let w = room.hash_room in let g = room.program_room in
      (omega (arith, b, r, q), omega (arith, u, w, g))
  bounded (suc (suc (suc (suc zero)))) lt = let b = room.above_boot in let r = room.turn_room in let q = room.output_room in let u = room.range_room in let w = room.hash_room in let g = room.program_room in
      (omega arith, omega (arith, w, g))
  bounded (suc (suc (suc (suc (suc zero))))) lt = let b = room.above_boot in let r = room.turn_room in let q = room.output_room in let u = room.range_room in let w = room.hash_room in let g = room.program_room in
      (omega arith, omega (arith, r, q, u, w, g))
  bounded (suc (suc (suc (suc (suc (suc zero)))))) lt = (omega arith, omega arith)
  bounded (suc (suc (suc (suc (suc (suc (suc i))))))) lt =
      let n = count_others in
      let at : base_of (bases_at t.checked p) (7 + i) ≡ slice_index (bases_on rest zs) i = bases_follow t p i in
      let inside : i < length zs = omega (arith, lt, n) in
      let low = bases_above rest zs i inside in
      let high = bases_below rest zs i inside in
      let g = room.program_room in
      let e : 7 + i ≡ suc (suc (suc (suc (suc (suc (suc i)))))) = omega arith in
      subst (λ (x : ℕ). IsInBounds (base_of (bases_at t.checked p) x)) e (subst IsInBounds (sym at) (omega (arith, low), omega (arith, high, g)))

  pub fits_at : Fits (bases_at t.checked p) t.checked.pie.sizes
  fits_at = record {
    one_each = one_each;
    in_bounds = λ i d lt. let e = one_each in subst IsInBounds (get_or_default (bases_at t.checked p) i 0 d lt) (bounded i (omega (arith, lt, e)));
    apart = λ s here s' there differ o q inside inside' same. differ (sym (owns s o here inside) ∙ ap owner same ∙ owns s' q there inside');
  }
