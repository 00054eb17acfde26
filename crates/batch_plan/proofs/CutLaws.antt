-- Where one more doesn't fit, none of the longer prefixes does.
use Rattle.std.proofs.Common.{◌≡◌, ℕ, suc, ◌+◌, ◌<◌, ◌≤◌, List, length, take, get_or, arith}
use Rattle.std.proofs.lemmas.List.{length-take-le}
use Rattle.std.proofs.lemmas.Option.{slice_get-get_or}
use Rattle.cairo_model.specs.declared.shape.Shape.{Shape}
use Rattle.batch_plan.specs.Cuts.{AreWithinBatch, FitOneBatch, IsLongestCut, steps_together, cells_together}
use Rattle.batch_plan.proofs.Sums.{sum_upto, sum_next}

-- so many of the list, where more of it fit
shorter_fit : (n m : ℕ) (xs : List Shape) → n ≤ m → m ≤ length xs → FitOneBatch (take m xs) → AreWithinBatch n (steps_together (take n xs)) (cells_together (take n xs))
shorter_fit n m xs le there fit =
    let b = length-take-le m xs there in
    let c = sum_upto (λ s. s.steps) n m xs le in
    let d = sum_upto (λ s. s.size) n m xs le in
    let k = fit.few in let s = fit.few_steps in let z = fit.few_cells in
    record { few = omega (arith, b, le, k); few_steps = omega (arith, c, s); few_cells = omega (arith, d, z) }

pub stops_at : (n steps cells : ℕ) (xs : List Shape) (d : Shape) → n < length xs → steps ≡ steps_together (take n xs) → cells ≡ cells_together (take n xs)
    → AreWithinBatch n steps cells → ¬ AreWithinBatch (n + 1) (steps + (get_or xs n d).steps) (cells + (get_or xs n d).size) → IsLongestCut xs n
stops_at n steps cells xs d lt steps_are cells_are within no_more = record {
  there = omega (arith, lt);
  fit = record { few = omega (arith, count, k); few_steps = omega (arith, steps_are, s); few_cells = omega (arith, cells_are, z) };
  longest = λ more there fits. let not = not_more more there fits in omega (arith, not);
}
  where
    count : length (take n xs) ≡ n
    count = length-take-le n xs (omega (arith, lt))

    k : n ≤ 16
    k = within.few

    s : steps ≤ 262144
    s = within.few_steps

    z : cells ≤ 262144
    z = within.few_cells

    not_more : (more : ℕ) → more ≤ length xs → FitOneBatch (take more xs) → ¬ (n < more)
    not_more more there fits gt =
        let one = shorter_fit (suc n) more xs (omega (arith, gt)) there fits in
        let a = sum_next (λ (x : Shape). x.steps) n xs (get_or xs n d) (slice_get-get_or xs n d lt) in
        let b = sum_next (λ (x : Shape). x.size) n xs (get_or xs n d) (slice_get-get_or xs n d lt) in
        let f = one.few in let g = one.few_steps in let h = one.few_cells in
        no_more (record { few = omega (arith, f); few_steps = omega (arith, a, g, steps_are); few_cells = omega (arith, b, h, cells_are) })
