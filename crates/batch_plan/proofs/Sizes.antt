-- The sizes of the first so many tasks, and the cells that they take together.
use Rattle.std.proofs.Common.{◌≡◌, ℕ, suc, ◌+◌, ◌*◌, ◌<◌, List, length, map, sum, take, get_or, All, sym, subst, ◌∙◌, ap, ap₂, arith}
use Rattle.std.proofs.lemmas.List.Elements.{All-more}
use Rattle.std.proofs.lemmas.Option.{slice_get-get_or}
use Rattle.cairo_model.specs.Pie.Records.{AreSizes}
use Rattle.batch_plan.specs.Parts.{BatchParts, task_parts, parts_together, moved_by}
use Rattle.batch_plan.specs.Working.Parts.{AreAtMost, most_part_cells}
use Rattle.batch_plan.proofs.Rooms.{same_parts}
use Rattle.batch_plan.proofs.Sums.{sum_next}

abbrev pub AreSummed : List (List ℕ) → ℕ → BatchParts → Type 0
AreSummed tasks i p = (p ≡ parts_together (take i tasks)) × AreAtMost (i * most_part_cells) p × All AreSizes (take i tasks)

next_sum : (f : List ℕ → ℕ) (tasks : List (List ℕ)) (i : ℕ) (sizes : List ℕ) → i < length tasks → sizes ≡ get_or tasks i sizes → sum (map f (take i tasks)) + f sizes ≡ sum (map f (take (i + 1) tasks))
next_sum f tasks i sizes lt is =
    let next = sum_next f i tasks (get_or tasks i sizes) (slice_get-get_or tasks i sizes lt) in
    let one = ap (λ k. sum (map f (take k tasks))) count in
    let same = ap f is in
    omega (arith, next, one, same)
  where
    count : suc i ≡ i + 1
    count = omega arith

next_parts : (tasks : List (List ℕ)) (i : ℕ) (sizes : List ℕ) → i < length tasks → sizes ≡ get_or tasks i sizes → moved_by (parts_together (take i tasks)) (task_parts sizes) ≡ parts_together (take (i + 1) tasks)
next_parts tasks i sizes lt is = same_parts _ _
    (next_sum (λ (t : List ℕ). (task_parts t).frame) tasks i sizes lt is)
    (next_sum (λ (t : List ℕ). (task_parts t).output) tasks i sizes lt is)
    (next_sum (λ (t : List ℕ). (task_parts t).range) tasks i sizes lt is)
    (next_sum (λ (t : List ℕ). (task_parts t).hash) tasks i sizes lt is)
    (next_sum (λ (t : List ℕ). (task_parts t).program) tasks i sizes lt is)

pub one_more : (tasks : List (List ℕ)) (i : ℕ) (sizes : List ℕ) (p by q : BatchParts) → i < length tasks → sizes ≡ get_or tasks i sizes → AreSizes sizes
    → AreSummed tasks i p → by ≡ task_parts sizes → AreAtMost most_part_cells by → q ≡ moved_by p by → AreSummed tasks (i + 1) q
one_more tasks i sizes p by q lt is are so_far by_is few q_is = (
  q_is ∙ ap₂ moved_by so_far.0 by_is ∙ next_parts tasks i sizes lt is,
  subst (AreAtMost ((i + 1) * most_part_cells)) (sym q_is) larger,
  All-more AreSizes tasks i sizes lt so_far.2 (subst AreSizes is are),
)
  where
    larger : AreAtMost ((i + 1) * most_part_cells) (moved_by p by)
    larger =
        let a = so_far.1.frame in let b = so_far.1.output in let c = so_far.1.range in let d = so_far.1.hash in let e = so_far.1.program in
        record {
          frame = omega (arith, a, few.frame);
          output = omega (arith, b, few.output);
          range = omega (arith, c, few.range);
          hash = omega (arith, d, few.hash);
          program = omega (arith, e, few.program);
        }
