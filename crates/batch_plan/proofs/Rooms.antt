-- Where the task of a number begins, and that it has room there.
use Rattle.std.proofs.Common.{◌≡◌, ℕ, zero, suc, ◌+◌, ◌^◌, ◌<◌, ◌≤◌, List, [], ◌∷◌, length, drop, map, sum, take, slice_index, slice_get, Some, refl, sym, ◌∙◌, ap, ap₂, arith}
use Rattle.std.proofs.lemmas.List.Sums.{get_or-le-sum_by, sum_by-cons}
use Rattle.cairo_model.specs.Pie.Records.{AreSizes}
use Rattle.batch_plan.specs.Parts.{BatchParts, task_parts, parts_together, moved_by}
use Rattle.batch_plan.specs.Plans.{ArePlannable, bases_of_all, task_bases, parts_at, output_start, range_start, hash_start, programs_start, free_start}
use Rattle.batch_plan.specs.Working.Parts.{AreAtMost, most_part_cells}
use Rattle.batch_plan.proofs.Sums.{sum_more, sum_part, sum_next, sum_few}

pub same_parts : (p q : BatchParts) → p.frame ≡ q.frame → p.output ≡ q.output → p.range ≡ q.range → p.hash ≡ q.hash → p.program ≡ q.program → p ≡ q
same_parts p q a b c d e = λ i. record { frame = a i; output = b i; range = c i; hash = d i; program = e i }

not_moved : (p : BatchParts) → moved_by p (parts_together []) ≡ p
not_moved p = same_parts _ p (omega arith) (omega arith) (omega arith) (omega arith) (omega arith)

moved_on : (p : BatchParts) (sizes : List ℕ) (tasks : List (List ℕ)) → moved_by (moved_by p (task_parts sizes)) (parts_together tasks) ≡ moved_by p (parts_together (sizes ∷ tasks))
moved_on p sizes tasks =
    let a = sum_more (λ (t : List ℕ). (task_parts t).frame) sizes tasks in
    let b = sum_more (λ (t : List ℕ). (task_parts t).output) sizes tasks in
    let c = sum_more (λ (t : List ℕ). (task_parts t).range) sizes tasks in
    let d = sum_more (λ (t : List ℕ). (task_parts t).hash) sizes tasks in
    let e = sum_more (λ (t : List ℕ). (task_parts t).program) sizes tasks in
    same_parts _ _ (omega (arith, a)) (omega (arith, b)) (omega (arith, c)) (omega (arith, d)) (omega (arith, e))

pub bases_there : (at : BatchParts) (tasks : List (List ℕ)) (i : ℕ) (bases sizes : List ℕ) → slice_get (bases_of_all at tasks) i ≡ Some bases → slice_get tasks i ≡ Some sizes
    → bases ≡ task_bases (moved_by at (parts_together (take i tasks))) sizes
unfolding bases_of_all
bases_there at [] i bases sizes has there = absurd (cc)
bases_there at (s ∷ ss) zero bases sizes has there =
    let same : s ≡ sizes = cc in
    let is : bases ≡ task_bases at s = cc in
    is ∙ ap₂ task_bases (sym (not_moved at)) same
bases_there at (s ∷ ss) (suc i) bases sizes has there =
    bases_there (moved_by at (task_parts s)) ss i bases sizes has there ∙ ap (λ p. task_bases p sizes) (moved_on at s (take i ss))

pub bases_count : (at : BatchParts) (tasks : List (List ℕ)) → length (bases_of_all at tasks) ≡ length tasks
unfolding bases_of_all
bases_count at [] = refl
bases_count at (s ∷ ss) = ap suc (bases_count (moved_by at (task_parts s)) ss)

-- A task that begins at p has room in each part: the output begins at o, the range cells at r, the hash instances at h and the
-- programs at g, and all ends at e.
pub record Room (sizes : List ℕ) (p : BatchParts) (o r h g e : ℕ) : Type 0 where
  pub frame_from : 124 ≤ p.frame
  pub frame_to : p.frame + (task_parts sizes).frame + 4 ≤ o
  pub output_from : o + 1 ≤ p.output
  pub output_to : p.output + (task_parts sizes).output ≤ r
  pub range_from : r ≤ p.range
  pub range_to : p.range + (task_parts sizes).range ≤ h
  pub hash_from : h ≤ p.hash
  pub hash_to : p.hash + (task_parts sizes).hash ≤ g
  pub program_from : g ≤ p.program
  pub program_to : p.program + (task_parts sizes).program ≤ e
  pub low : e < 2 ^ 32

-- a part up to a task and with it
upto : (f : List ℕ → ℕ) (i : ℕ) (tasks : List (List ℕ)) (sizes : List ℕ) → slice_get tasks i ≡ Some sizes → sum (map f (take i tasks)) + f sizes ≤ sum (map f tasks)
upto f i tasks sizes there = let a = sum_next f i tasks sizes there in let b = sum_part f (suc i) tasks in omega (arith, a, b)

pub room_there : (tasks : List (List ℕ)) (i : ℕ) (sizes : List ℕ) → free_start tasks < 2 ^ 32 → slice_get tasks i ≡ Some sizes
    → Room sizes (parts_at tasks i) (output_start tasks) (range_start tasks) (hash_start tasks) (programs_start tasks) (free_start tasks)
room_there tasks i sizes low there =
    let a = upto (λ (t : List ℕ). (task_parts t).frame) i tasks sizes there in
    let b = upto (λ (t : List ℕ). (task_parts t).output) i tasks sizes there in
    let c = upto (λ (t : List ℕ). (task_parts t).range) i tasks sizes there in
    let d = upto (λ (t : List ℕ). (task_parts t).hash) i tasks sizes there in
    let e = upto (λ (t : List ℕ). (task_parts t).program) i tasks sizes there in
    record {
      frame_from = omega arith;
      frame_to = omega (arith, a);
      output_from = omega arith;
      output_to = omega (arith, b);
      range_from = omega arith;
      range_to = omega (arith, c);
      hash_from = omega arith;
      hash_to = omega (arith, d);
      program_from = omega arith;
      program_to = omega (arith, e);
      low = low;
    }

pub sum_drop : (n : ℕ) (xs : List ℕ) → sum (drop n xs) ≤ sum xs
sum_drop zero xs = omega arith
sum_drop (suc n) [] = omega arith
sum_drop (suc n) (x ∷ xs) = let e = sum_drop n xs in let f = sum_by-cons (λ (y : ℕ). y) x xs in omega (arith, e, f)

pub size_few : (sizes : List ℕ) → AreSizes sizes → (s : ℕ) → s < 7 → slice_index sizes s ≤ 65536
size_few sizes are s lt =
    let many = are.at_least in
    let all = are.in_all in
    let one = get_or-le-sum_by (λ (x : ℕ). x) sizes s 0 (omega (arith, lt, many)) in
    omega (arith, all, one)

parts_few : (sizes : List ℕ) → AreSizes sizes → AreAtMost most_part_cells (task_parts sizes)
parts_few sizes are =
    let code = size_few sizes are 0 (omega arith) in
    let stack = size_few sizes are 1 (omega arith) in
    let output = size_few sizes are 2 (omega arith) in
    let range = size_few sizes are 3 (omega arith) in
    let hash = size_few sizes are 4 (omega arith) in
    let others = sum_drop 7 sizes in
    let all = are.in_all in
    record {
      frame = omega (arith, code, stack);
      output = omega (arith, output);
      range = omega (arith, range);
      hash = omega (arith, code, hash);
      program = omega (arith, code, others, all);
    }

pub free_few : (tasks : List (List ℕ)) → ArePlannable tasks → free_start tasks < 2 ^ 32
free_few tasks are =
    let n = are.few in
    let a = sum_few AreSizes (λ (t : List ℕ). (task_parts t).frame) 1048576 (λ t each. (parts_few t each).frame) tasks are.each in
    let b = sum_few AreSizes (λ (t : List ℕ). (task_parts t).output) 1048576 (λ t each. (parts_few t each).output) tasks are.each in
    let c = sum_few AreSizes (λ (t : List ℕ). (task_parts t).range) 1048576 (λ t each. (parts_few t each).range) tasks are.each in
    let d = sum_few AreSizes (λ (t : List ℕ). (task_parts t).hash) 1048576 (λ t each. (parts_few t each).hash) tasks are.each in
    let e = sum_few AreSizes (λ (t : List ℕ). (task_parts t).program) 1048576 (λ t each. (parts_few t each).program) tasks are.each in
    omega (arith, n, a, b, c, d, e)
