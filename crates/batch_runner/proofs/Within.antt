-- A batch's limits as sums over its tasks.
use Rattle.std.proofs.Common.{◌≡◌, ℕ, List, [], ◌∷◌, map, sum, refl, arith}
use Rattle.std.proofs.lemmas.List.Sums.{sum_by-cons}
use Rattle.cairo_model.specs.Pie.Acceptance.{CheckedRecord}
use Rattle.boot_program.specs.Batch.Parcels.{WithinBatch}
use Rattle.batch_runner.specs.Working.Tasks.{Task, checked_of}
use Rattle.batch_runner.specs.Layout.{total}
use Rattle.batch_runner.specs.Working.Rooms.{WithinLimits}

total_is : (f : CheckedRecord → ℕ) (ts : List Task) → total f (checked_of ts) ≡ sum (map f (checked_of ts))
unfolding total
total_is f [] = refl
total_is f (t ∷ ts) =
    let e = total_is f ts in
    let s = sum_by-cons (λ (y : ℕ). y) (f t.checked) (map f (checked_of ts)) in
    omega (arith, e, s)

pub within : (ts : List Task) → WithinBatch (checked_of ts) → WithinLimits ts
within ts batch =
    let few = batch.few in
    let steps = batch.few_steps in
    let cells = batch.few_cells in
    let a = total_is (λ t. t.pie.steps) ts in
    let b = total_is (λ t. sum t.pie.sizes) ts in
    record { few_tasks = few; few_steps = omega (arith, a, steps); few_cells = omega (arith, b, cells) }
