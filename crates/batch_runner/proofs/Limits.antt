-- Within the batch limits all cells lie below 2 ^ 32.
use Rattle.std.proofs.Common.{ℕ, zero, suc, ◌*◌, ◌^◌, ◌<◌, ◌≤◌, ◌⊎◌, List, [], ◌∷◌, ◌++◌, drop, sum, length, inl, inr, arith}
use Rattle.std.proofs.lemmas.List.Sums.{sum_by-cons, get_or-le-sum_by}
use Rattle.cairo_model.specs.Machine.FieldMemories.{FieldCell}
use Rattle.batch_runner.specs.Laws.{AreBatchCells}
use Rattle.cairo_model.specs.Pie.Acceptance.{CheckedRecord}
use Rattle.batch_runner.specs.Working.Tasks.{Task, checked_of}
use Rattle.batch_runner.specs.Layout.{hash_size, output_size, program_size, size, total, turn_size}
use Rattle.batch_runner.specs.Working.Rooms.{free_from}
use Rattle.batch_runner.specs.Memory.{all_cells, words_part}
use Rattle.batch_runner.specs.Pieces.{Stands}
use Rattle.batch_runner.specs.Working.Rising.{RisesIn}
use Rattle.batch_runner.specs.Working.Rooms.{WithinLimits}
use Rattle.batch_runner.proofs.PiecesLaws.{rises}
use Rattle.batch_runner.proofs.PartsRise.{words_rise, above_rises, all_rise}

pub sum_drop : (n : ℕ) (xs : List ℕ) → sum (drop n xs) ≤ sum xs
sum_drop zero xs = omega arith
sum_drop (suc n) [] = omega arith
sum_drop (suc n) (x ∷ xs) = let e = sum_drop n xs in let f = sum_by-cons (λ (y : ℕ). y) x xs in omega (arith, e, f)

pub size_few : (t : Task) (s : ℕ) → s < 7 → size t.checked s ≤ 65536
size_few t s lt =
    let sizes = t.accepted.rules.are_sizes in
    let many = sizes.at_least in
    let all = sizes.in_all in
    let one = get_or-le-sum_by (λ (x : ℕ). x) t.checked.pie.sizes s 0 (omega (arith, lt, many)) in
    omega (arith, all, one)

total_few : (f : CheckedRecord → ℕ) → ((t : Task) → f t.checked ≤ 1048576) → (ts : List Task) → total f (checked_of ts) ≤ length (checked_of ts) * 1048576
unfolding total
total_few f each [] = omega arith
total_few f each (t ∷ ts) = let e = total_few f each ts in let g = each t in omega (arith, e, g)

pub free_few : (ts : List Task) → WithinLimits ts → free_from (checked_of ts) < 2 ^ 32
free_few ts limits =
    let n = limits.few_tasks in
    let a = total_few turn_size turn_few ts in
    let b = total_few output_size output_few ts in
    let c = total_few (λ t. size t 3) range_few ts in
    let d = total_few hash_size hash_few ts in
    let e = total_few program_size program_few ts in
    omega (arith, n, a, b, c, d, e)
  where
    turn_few : (t : Task) → turn_size t.checked ≤ 1048576
    turn_few t = let c = size_few t 0 (omega arith) in let s = size_few t 1 (omega arith) in omega (arith, c, s)

    output_few : (t : Task) → output_size t.checked ≤ 1048576
    output_few t = let s = size_few t 2 (omega arith) in omega (arith, s)

    range_few : (t : Task) → size t.checked 3 ≤ 1048576
    range_few t = let s = size_few t 3 (omega arith) in omega (arith, s)

    hash_few : (t : Task) → hash_size t.checked ≤ 1048576
    hash_few t = let c = size_few t 0 (omega arith) in let s = size_few t 4 (omega arith) in omega (arith, c, s)

    program_few : (t : Task) → program_size t.checked ≤ 1048576
    program_few t = let c = size_few t 0 (omega arith) in let all = t.accepted.rules.are_sizes.in_all in let s = sum_drop 7 t.checked.pie.sizes in omega (arith, c, s, all)

-- an address lies where the addresses rise
between : (a v lo hi : ℕ) (cells : List FieldCell) → RisesIn lo hi cells → Stands a v cells → (lo ≤ a) × (a < hi)
unfolding RisesIn Stands
between a v lo hi [] h none = absurd none
between a v lo hi (c ∷ cs) h (inl is) = let e = is.0 in let f = h.0 in let g = ends (suc c.0) hi cs h.1 in (omega (arith, e, f), omega (arith, e, g))
  where
    ends : (lo hi : ℕ) (cells : List FieldCell) → RisesIn lo hi cells → lo ≤ hi
    ends lo hi [] h = h
    ends lo hi (c ∷ cs) h = let f = h.0 in let g = ends (suc c.0) hi cs h.1 in omega (arith, f, g)
between a v lo hi (c ∷ cs) h (inr later) = let e = between a v (suc c.0) hi cs h.1 later in let f = h.0 in (omega (arith, e.0, f), e.1)

-- a cell of a list stands in one part of it
in_part : (a v : ℕ) (xs ys : List FieldCell) → Stands a v (xs ++ ys) → Stands a v xs ⊎ Stands a v ys
unfolding Stands
in_part a v [] ys is = inr is
in_part a v (x ∷ xs) ys (inl is) = inl (inl is)
in_part a v (x ∷ xs) ys (inr later) = elim (in_part a v xs ys later) [
  | inl here ↦ inl (inr here)
  | inr there ↦ inr there
]

pub batch_cells : (ts : List Task) → WithinLimits ts → AreBatchCells (all_cells (checked_of ts))
batch_cells ts limits = record {
  rise = rises 1 (free_from (checked_of ts)) (all_cells (checked_of ts)) (all_rise ts);
  each = λ a v is. elim (in_part a v words_part _ is) [
    | inl here ↦ let b = between a v 1 118 words_part words_rise here in let l = b.0 in let h = b.1 in (omega (arith, l), (λ e. omega (arith, e, h)), omega (arith, h))
    | inr there ↦ let f = free_few ts limits in let b = between a v 119 (free_from (checked_of ts)) _ (above_rises ts) there in let l = b.0 in let h = b.1 in (omega (arith, l), (λ e. omega (arith, e, l)), omega (arith, h, f))
  ];
}
