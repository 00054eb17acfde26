-- The plan of a batch: each task lies in its parts, and no address in two tasks.
use Rattle.std.proofs.Common.{◌≡◌, ℕ, zero, suc, ◌+◌, ◌-◌, ◌<◌, ◌≤◌, ◌⊎◌, inl, inr, ltb, if◌then◌else◌, List, [], length, map, sum, take, drop, slice_index, slice_get, Some, refl, sym, subst, ◌∙◌, arith}
use Rattle.std.proofs.lemmas.Option.{get_or_from_slice_get, slice_get_within}
use Rattle.cairo_model.specs.Pie.Layouts.{base_of}
use Rattle.cairo_model.specs.Pie.Records.{AreSizes}
use Rattle.batch_plan.specs.Parts.{BatchParts, task_parts, taken_by}
use Rattle.batch_plan.specs.Plans.{ArePlannable, IsPlan, IsTaskLayout, LiesFromTo, ShareNoCell, TaskLies, task_bases, parts_at, plan_of}
use Rattle.batch_plan.proofs.Sums.{sum_upto, sum_next}
use Rattle.batch_plan.proofs.Rooms.{Room, bases_there, bases_count, room_there, free_few}
use Rattle.batch_plan.proofs.Fitting.{above_is, below_is, fits_there, other, zeros_fit}

-- ---- one task

module _ (sizes : List ℕ) (are : AreSizes sizes) (p : BatchParts) (o r h g e : ℕ) (room : Room sizes p o r h g e) where
  abbrev bases : List ℕ
  bases = task_bases p sizes

  further : (i s : ℕ) → 7 + i ≡ s → s < length sizes → LiesFromTo g e (base_of bases s) (slice_index sizes s)
  further i s is lt =
      let there = other sizes are p o r h g e room i (omega (arith, is, lt)) in
      let f = there.from in let t = there.to in let a = room.program_from in let b = room.program_to in
      subst (λ (x : ℕ). LiesFromTo g e (base_of bases x) (slice_index sizes x)) is (omega (arith, f, a), omega (arith, t, b))

  outside : (s : ℕ) → (s ≡ 0) ⊎ (7 ≤ s) → s < length sizes → LiesFromTo g e (base_of bases s) (taken_by sizes s)
  outside zero is lt = let a = room.program_from in let b = room.program_to in (omega (arith, a), omega (arith, b))
  outside (suc s) (inl is) lt = absurd (omega (arith, is))
  outside (suc s) (inr le) lt = further (suc s - 7) (suc s) (omega (arith, le)) lt

  task_lies : (layouts : List (List ℕ)) → TaskLies (record { tasks = layouts; frame = record { start = 119; stop = o }; output = record { start = o; stop = r }; range = record { start = r; stop = h }; hash = record { start = h; stop = g }; free = e }) p bases sizes
  task_lies layouts =
      let a = room.frame_from in let b = room.frame_to in let c = room.output_from in let d = room.output_to in
      let f = room.range_from in let i = room.range_to in let j = room.hash_from in let k = room.hash_to in
      record {
        fits = fits_there sizes are p o r h g e room;
        zeros_fit = zeros_fit sizes are p o r h g e room;
        in_frame = (omega (arith, a), omega (arith, b));
        in_output = (omega (arith, c), omega (arith, d));
        in_range = (f, i);
        in_hash = (omega (arith, j), omega (arith, k));
        after_header = refl;
        range_in_order = refl;
        after_instances = refl;
        outside = outside;
      }

-- ---- two tasks: an address tells the part in which it lies, and in each part the one lies before the other

-- the part in which a segment lies
zone_of : ℕ → ℕ
zone_of zero = 0
zone_of (suc zero) = 1
zone_of (suc (suc zero)) = 2
zone_of (suc (suc (suc zero))) = 3
zone_of (suc (suc (suc (suc zero)))) = 4
zone_of (suc (suc (suc (suc (suc s))))) = 0

zone_few : (s : ℕ) → zone_of s < 5
unfolding zone_of
zone_few zero = omega arith
zone_few (suc zero) = omega arith
zone_few (suc (suc zero)) = omega arith
zone_few (suc (suc (suc zero))) = omega arith
zone_few (suc (suc (suc (suc zero)))) = omega arith
zone_few (suc (suc (suc (suc (suc s))))) = omega arith

-- an address that a task takes in a part, where it begins at p and takes so much
Lies : ℕ → BatchParts → BatchParts → ℕ → Type 0
Lies zero p by a = (p.program ≤ a) × (a < p.program + by.program)
Lies (suc zero) p by a = (p.frame ≤ a) × (a < p.frame + by.frame)
Lies (suc (suc zero)) p by a = (p.output ≤ a) × (a < p.output + by.output)
Lies (suc (suc (suc zero))) p by a = (p.range ≤ a) × (a < p.range + by.range)
Lies (suc (suc (suc (suc z)))) p by a = (p.hash ≤ a) × (a < p.hash + by.hash)

zone : ℕ → ℕ → ℕ → ℕ → ℕ → ℕ
zone o r h g a = if ltb a o then 1 else (if ltb a r then 2 else (if ltb a h then 3 else (if ltb a g then 4 else 0)))

module _ (sizes : List ℕ) (are : AreSizes sizes) (p : BatchParts) (o r h g e : ℕ) (room : Room sizes p o r h g e) where
  lies : (s k : ℕ) → s < length sizes → k < taken_by sizes s → Lies (zone_of s) p (task_parts sizes) (base_of (task_bases p sizes) s + k)
  unfolding zone_of Lies
  lies zero k lt inside = (omega arith, omega (arith, inside))
  lies (suc zero) k lt inside = (omega arith, omega (arith, inside))
  lies (suc (suc zero)) k lt inside = (omega arith, omega (arith, inside))
  lies (suc (suc (suc zero))) k lt inside = (omega arith, omega (arith, inside))
  lies (suc (suc (suc (suc zero)))) k lt inside = (omega arith, omega (arith, inside))
  lies (suc (suc (suc (suc (suc zero))))) k lt inside = let n = are.no_return_fp in absurd (omega (arith, n, inside))
  lies (suc (suc (suc (suc (suc (suc zero)))))) k lt inside = let n = are.no_return_pc in absurd (omega (arith, n, inside))
  lies (suc (suc (suc (suc (suc (suc (suc i))))))) k lt inside = moved (suc (suc (suc (suc (suc (suc (suc i))))))) (omega arith) lt inside
    where
      moved : (s : ℕ) → 7 + i ≡ s → s < length sizes → k < slice_index sizes s
          → (p.program ≤ base_of (task_bases p sizes) s + k) × (base_of (task_bases p sizes) s + k < p.program + (task_parts sizes).program)
      moved s is lt inside =
          let there = other sizes are p o r h g e room i (omega (arith, is, lt)) in
          let f : p.program + slice_index sizes 0 + 3 ≤ base_of (task_bases p sizes) s = subst (λ (x : ℕ). p.program + slice_index sizes 0 + 3 ≤ base_of (task_bases p sizes) x) is there.from in
          let t : base_of (task_bases p sizes) s + slice_index sizes s ≤ p.program + slice_index sizes 0 + 3 + sum (drop 7 sizes) = subst (λ (x : ℕ). base_of (task_bases p sizes) x + slice_index sizes x ≤ p.program + slice_index sizes 0 + 3 + sum (drop 7 sizes)) is there.to in
          (omega (arith, f), omega (arith, t, inside))

  in_zone : (z a : ℕ) → z < 5 → Lies z p (task_parts sizes) a → zone o r h g a ≡ z
  unfolding Lies zone
  in_zone zero a few at =
      let l = at.0 in let f = room.program_from in
      let b = room.output_from in let b2 = room.output_to in let c = room.range_from in let c2 = room.range_to in let d = room.hash_from in let d2 = room.hash_to in
      above_is a o 1 _ (omega (arith, l, f, b, b2, c, c2, d, d2)) ∙ above_is a r 2 _ (omega (arith, l, f, c, c2, d, d2)) ∙ above_is a h 3 _ (omega (arith, l, f, d, d2)) ∙ above_is a g 4 0 (omega (arith, l, f))
  in_zone (suc zero) a few at = let t = at.1 in let f = room.frame_to in below_is a o 1 _ (omega (arith, t, f))
  in_zone (suc (suc zero)) a few at = let l = at.0 in let t = at.1 in let f = room.output_from in let f2 = room.output_to in above_is a o 1 _ (omega (arith, l, f)) ∙ below_is a r 2 _ (omega (arith, t, f2))
  in_zone (suc (suc (suc zero))) a few at =
      let l = at.0 in let t = at.1 in let f = room.range_from in let f2 = room.range_to in let b = room.output_from in let b2 = room.output_to in
      above_is a o 1 _ (omega (arith, l, f, b, b2)) ∙ above_is a r 2 _ (omega (arith, l, f)) ∙ below_is a h 3 _ (omega (arith, t, f2))
  in_zone (suc (suc (suc (suc zero)))) a few at =
      let l = at.0 in let t = at.1 in let f = room.hash_from in let f2 = room.hash_to in
      let b = room.output_from in let b2 = room.output_to in let c = room.range_from in let c2 = room.range_to in
      above_is a o 1 _ (omega (arith, l, f, b, b2, c, c2)) ∙ above_is a r 2 _ (omega (arith, l, f, c, c2)) ∙ above_is a h 3 _ (omega (arith, l, f)) ∙ below_is a g 4 _ (omega (arith, t, f2))
  in_zone (suc (suc (suc (suc (suc z))))) a few at = absurd (omega (arith, few))

-- the one ends in each part by where the other begins
record EndsBefore (p by q : BatchParts) : Type 0 where
  frame : p.frame + by.frame ≤ q.frame
  output : p.output + by.output ≤ q.output
  range : p.range + by.range ≤ q.range
  hash : p.hash + by.hash ≤ q.hash
  program : p.program + by.program ≤ q.program

never_both : (z : ℕ) (p by q other_by : BatchParts) (a : ℕ) → EndsBefore p by q → Lies z p by a → Lies z q other_by a → ⊥
unfolding Lies
never_both zero p by q other_by a b first second = let n = b.program in let t = first.1 in let l = second.0 in omega (arith, n, t, l)
never_both (suc zero) p by q other_by a b first second = let n = b.frame in let t = first.1 in let l = second.0 in omega (arith, n, t, l)
never_both (suc (suc zero)) p by q other_by a b first second = let n = b.output in let t = first.1 in let l = second.0 in omega (arith, n, t, l)
never_both (suc (suc (suc zero))) p by q other_by a b first second = let n = b.range in let t = first.1 in let l = second.0 in omega (arith, n, t, l)
never_both (suc (suc (suc (suc z)))) p by q other_by a b first second = let n = b.hash in let t = first.1 in let l = second.0 in omega (arith, n, t, l)

module _ (o r h g e : ℕ) (sizes : List ℕ) (are : AreSizes sizes) (p : BatchParts) (room : Room sizes p o r h g e)
    (others : List ℕ) (others_are : AreSizes others) (q : BatchParts) (other_room : Room others q o r h g e) where
  two_apart : EndsBefore p (task_parts sizes) q → (s t : ℕ) → s < length sizes → t < length others → ShareNoCell (task_bases p sizes) sizes s (task_bases q others) others t
  two_apart before s t s_in t_in k w k_in w_in same =
      let a = base_of (task_bases p sizes) s + k in
      let first = lies sizes are p o r h g e room s k s_in k_in in
      let second : Lies (zone_of t) q (task_parts others) a = subst (λ (x : ℕ). Lies (zone_of t) q (task_parts others) x) (sym same) (lies others others_are q o r h g e other_room t w t_in w_in) in
      let equal : zone_of t ≡ zone_of s = sym (in_zone others others_are q o r h g e other_room (zone_of t) a (zone_few t) second) ∙ in_zone sizes are p o r h g e room (zone_of s) a (zone_few s) first in
      never_both (zone_of s) p (task_parts sizes) q (task_parts others) a before first (subst (λ (z : ℕ). Lies z q (task_parts others) a) equal second)

-- ---- all tasks

-- a part up to a later task
upto_later : (f : List ℕ → ℕ) (tasks : List (List ℕ)) (i j : ℕ) (sizes : List ℕ) → i < j → slice_get tasks i ≡ Some sizes → sum (map f (take i tasks)) + f sizes ≤ sum (map f (take j tasks))
upto_later f tasks i j sizes lt there = let a = sum_next f i tasks sizes there in let b = sum_upto f (suc i) j tasks (omega (arith, lt)) in omega (arith, a, b)

ends_before : (tasks : List (List ℕ)) (i j : ℕ) (sizes : List ℕ) → i < j → slice_get tasks i ≡ Some sizes → EndsBefore (parts_at tasks i) (task_parts sizes) (parts_at tasks j)
ends_before tasks i j sizes lt there =
    let a = upto_later (λ (t : List ℕ). (task_parts t).frame) tasks i j sizes lt there in
    let b = upto_later (λ (t : List ℕ). (task_parts t).output) tasks i j sizes lt there in
    let c = upto_later (λ (t : List ℕ). (task_parts t).range) tasks i j sizes lt there in
    let d = upto_later (λ (t : List ℕ). (task_parts t).hash) tasks i j sizes lt there in
    let e = upto_later (λ (t : List ℕ). (task_parts t).program) tasks i j sizes lt there in
    record { frame = omega (arith, a); output = omega (arith, b); range = omega (arith, c); hash = omega (arith, d); program = omega (arith, e) }

module _ (tasks : List (List ℕ)) (plannable : ArePlannable tasks) where
  sizes_there : (i : ℕ) (sizes : List ℕ) → slice_get tasks i ≡ Some sizes → AreSizes sizes
  sizes_there i sizes there = subst AreSizes (get_or_from_slice_get tasks i sizes [] there) (plannable.each i [] (slice_get_within tasks i sizes there))

  lie_there : (i : ℕ) (bases sizes : List ℕ) → IsTaskLayout (plan_of tasks) tasks i bases sizes → TaskLies (plan_of tasks) (parts_at tasks i) bases sizes
  lie_there i bases sizes has =
      let room = room_there tasks i sizes (free_few tasks plannable) has.are_sizes in
      let same = bases_there _ tasks i bases sizes has.are_bases has.are_sizes in
      subst (λ (x : List ℕ). TaskLies (plan_of tasks) (parts_at tasks i) x sizes) (sym same) (task_lies sizes (sizes_there i sizes has.are_sizes) (parts_at tasks i) _ _ _ _ _ room _)

  apart_there : (i j : ℕ) (bases sizes others other_sizes : List ℕ) → i < j → IsTaskLayout (plan_of tasks) tasks i bases sizes → IsTaskLayout (plan_of tasks) tasks j others other_sizes
      → (s t : ℕ) → s < length sizes → t < length other_sizes → ShareNoCell bases sizes s others other_sizes t
  apart_there i j bases sizes others other_sizes lt one two s t s_in t_in =
      let low = free_few tasks plannable in
      let apart = two_apart _ _ _ _ _ sizes (sizes_there i sizes one.are_sizes) (parts_at tasks i) (room_there tasks i sizes low one.are_sizes)
      other_sizes (sizes_there j other_sizes two.are_sizes) (parts_at tasks j) (room_there tasks j other_sizes low two.are_sizes) (ends_before tasks i j sizes lt one.are_sizes) s t s_in t_in in
      let same = bases_there _ tasks i bases sizes one.are_bases one.are_sizes in
      let other_same = bases_there _ tasks j others other_sizes two.are_bases two.are_sizes in
      subst (λ (x : List ℕ). ShareNoCell x sizes s others other_sizes t) (sym same) (subst (λ (x : List ℕ). ShareNoCell (task_bases (parts_at tasks i) sizes) sizes s x other_sizes t) (sym other_same) apart)

pub plan_holds : (tasks : List (List ℕ)) → ArePlannable tasks → IsPlan (plan_of tasks) tasks
plan_holds tasks are = record {
  one_each = bases_count _ tasks;
  lie = lie_there tasks are;
  apart = apart_there tasks are;
  in_order = record {
    frame_after_end = omega arith;
    frame_ordered = omega arith;
    output_after = omega arith;
    output_ordered = omega arith;
    range_after = omega arith;
    range_ordered = omega arith;
    hash_after = omega arith;
    hash_ordered = omega arith;
    free_after = omega arith;
  };
  free_low = free_few tasks are;
}
