-- How many states and cells a batch's certificate has, and that each task stands in it by its mark.
use Rattle.std.proofs.Common.{◌≡◌, ℕ, zero, suc, ◌+◌, ◌*◌, ◌^◌, ◌<◌, ◌≤◌, List, [], ◌∷◌, ◌++◌, map, drop, sum, length, slice_index, refl, arith, length-drop}
use Rattle.std.specs.List.{All}
use Rattle.std.proofs.lemmas.List.{length-map}
use Rattle.std.proofs.lemmas.List.Sums.{sum_by-cons}
use Rattle.cairo_model.specs.Machine.FieldMemories.{FieldCell}
use Rattle.cairo_model.specs.Pie.Layouts.{relocated_state}
use Rattle.cairo_model.specs.Certificate.Records.{MarkRecord, HasSpelling, alone, batch}
use Rattle.boot_program.specs.Words.{boot_code, boot_words}
use Rattle.batch_plan.specs.Parts.{BatchParts}
use Rattle.batch_runner.specs.Certificates.{IsSmall, turns_of, cert_of, marks_from, sizes_of_batch, steps_of_batch}
use Rattle.batch_runner.specs.Working.Tasks.{Task, checked_of}
use Rattle.batch_runner.specs.Layout.{bases_at, boot_frame, first_place, hash_from, hash_size, next_place, output_from, output_size, program_size, range_from, size, total, turn_size}
use Rattle.batch_runner.specs.Working.Rooms.{free_from}
use Rattle.batch_runner.specs.Memory.{all_cells}
use Rattle.batch_runner.specs.Rows.{memory_of_batch, values_of_all, task_values_at}
use Rattle.batch_runner.specs.Working.Marks.{MarksStand}
use Rattle.batch_runner.specs.Working.Rising.{RisesIn}
use Rattle.batch_runner.specs.Working.Rooms.{HasRooms, WithinLimits}
use Rattle.batch_runner.specs.Working.TaskRuns.{TaskPasses}
use Rattle.boot_program.specs.Rows.{symbolic_state, rows_from}
use Rattle.boot_program.specs.Cells.{state}
use Rattle.boot_program.specs.Tasks.{task_length, tasks_rows, tasks_end, tasks_length}
use Rattle.boot_program.proofs.BatchLaws.{entry_passes}
use Rattle.batch_runner.proofs.PartsRise.{all_rise}
use Rattle.batch_runner.proofs.Limits.{free_few, size_few}
use Rattle.batch_runner.proofs.Fitting.{one_each}
use Rattle.batch_runner.proofs.Honest.{marks_count}
use Rattle.batch_runner.proofs.WholeBatch as whole
use Rattle.batch_runner.proofs.Standing.{by_passes, all_stand}

pub all_stand_in : TaskPasses → (t : Task) (ts : List Task) → WithinLimits (t ∷ ts) → MarksStand (cert_of t.checked (checked_of ts)) (cert_of t.checked (checked_of ts)).tasks (t ∷ ts)
all_stand_in passes t ts limits =
    let all = t ∷ ts in
    let m = memory_of_batch (checked_of all) in
    let p = first_place (checked_of all) in
    let fits = free_few all limits in
    let boot = whole.boot_there all in
    let n = limits.few_tasks in
    let later = values_of_all (next_place t.checked p) (checked_of ts) in
    let leaving = rows_from boot_code 1 m (symbolic_state 10 (tasks_end (task_values_at t.checked p) later) boot_frame) in
    let entry = entry_passes m boot boot_frame boot_frame (length (checked_of all)) (output_from (checked_of all)) (range_from (checked_of all)) (hash_from (checked_of all)) (whole.enters all fits) in
    all_stand (cert_of t.checked (checked_of ts)) m refl boot passes (whole.idle_there all fits) leaving t ts p 4 (whole.rooms_of (checked_of all) fits) (whole.parts_there all) (omega (arith, n))
    (by_passes m 4 (state 1 boot_frame boot_frame) (state 6 128 boot_frame) (rows_from boot_code 4 m (symbolic_state 1 boot_frame boot_frame)) (tasks_rows m 128 boot_frame (task_values_at t.checked p) later ++ leaving) entry)

-- what rises has room
fills : (lo hi : ℕ) (cells : List FieldCell) → RisesIn lo hi cells → lo + length cells ≤ hi
unfolding RisesIn
fills lo hi [] h = omega (arith, h)
fills lo hi (c ∷ cs) h = let e = h.0 in let f = fills (suc c.0) hi cs h.1 in omega (arith, e, f)

one_more : (x : ℕ) (xs : List ℕ) → sum (x ∷ xs) ≡ x + sum xs
one_more x xs = sum_by-cons (λ (y : ℕ). y) x xs

-- the seven first segments and the others
in_all : (xs : List ℕ) → 7 ≤ length xs → sum xs ≡ slice_index xs 0 + slice_index xs 1 + slice_index xs 2 + slice_index xs 3 + slice_index xs 4 + slice_index xs 5 + slice_index xs 6 + sum (drop 7 xs)
in_all (a ∷ b ∷ c ∷ d ∷ e ∷ f ∷ g ∷ rest) many =
    let one = one_more a (b ∷ c ∷ d ∷ e ∷ f ∷ g ∷ rest) in
    let two = one_more b (c ∷ d ∷ e ∷ f ∷ g ∷ rest) in
    let three = one_more c (d ∷ e ∷ f ∷ g ∷ rest) in
    let four = one_more d (e ∷ f ∷ g ∷ rest) in
    let five = one_more e (f ∷ g ∷ rest) in
    let six = one_more f (g ∷ rest) in
    let seven = one_more g rest in
    omega (arith, one, two, three, four, five, six, seven)
in_all _ many = absurd (omega (arith, many))

-- all parts together
totals : (ts : List Task) → total turn_size (checked_of ts) + total output_size (checked_of ts) + total (λ t. size t 3) (checked_of ts) + total hash_size (checked_of ts) + total program_size (checked_of ts) ≡ 35 * turns_of (checked_of ts) + 70 * length (checked_of ts) + sizes_of_batch (checked_of ts)
unfolding total
totals [] = refl
totals (t ∷ ts) =
    let e = totals ts in
    let s = in_all t.checked.pie.sizes t.accepted.rules.are_sizes.at_least in
    let five = t.accepted.rules.are_sizes.no_return_fp in
    let six = t.accepted.rules.are_sizes.no_return_pc in
    omega (arith, e, s, five, six)

steps_are : (t : Task) (p : BatchParts) → length (task_values_at t.checked p).states ≡ t.checked.pie.steps
steps_are t p =
    let a = length-drop 1 (map (relocated_state (bases_at t.checked p)) t.checked.states) in
    let b = length-map t.checked.states (relocated_state (bases_at t.checked p)) in
    let c = t.accepted.isolated.count in
    omega (arith, a, b, c)

tasks_count : (t : Task) (ts : List Task) (p : BatchParts) → tasks_length (task_values_at t.checked p) (values_of_all (next_place t.checked p) (checked_of ts)) ≡ 66 * length (checked_of (t ∷ ts)) + 29 * turns_of (checked_of (t ∷ ts)) + steps_of_batch (checked_of (t ∷ ts))
unfolding tasks_length values_of_all total
tasks_count t [] p = let s = steps_are t p in omega (arith, s)
tasks_count t (next ∷ ts) p =
    let s = steps_are t p in
    let e = tasks_count next ts (next_place t.checked p) in
    omega (arith, s, e)

pub counted : TaskPasses → (t : Task) (ts : List Task) → WithinLimits (t ∷ ts) → IsSmall (cert_of t.checked (checked_of ts)) (checked_of (t ∷ ts))
counted passes t ts limits =
    let all = t ∷ ts in
    let n = limits.few_tasks in
    let run = whole.batch_runs passes t ts (free_few all limits) (omega (arith, n)) in
    let count = run.count in
    let rows = tasks_count t ts (first_place (checked_of all)) in
    let room = fills 1 (free_from (checked_of all)) (all_cells (checked_of all)) (all_rise all) in
    let parts = totals all in
    let words : length boot_words ≡ 117 = refl in
    record { states = omega (arith, count, rows); cells = omega (arith, room, parts, words) }

-- what the type of certificates keeps
bases_few : (before : ℕ) (p : BatchParts) (ts : List Task) → HasRooms p (checked_of ts) → All (λ (k : MarkRecord). length k.bases < 2 ^ 32) (marks_from before p (checked_of ts))
unfolding marks_from
bases_few before p [] rooms k d lt = absurd (omega (arith, lt))
bases_few before p (t ∷ ts) rooms zero d lt =
    let e = one_each t p (whole.room_here t.checked (checked_of ts) p rooms) in
    let n = t.accepted.rules.are_sizes.at_most in
    omega (arith, e, n)
bases_few before p (t ∷ ts) rooms (suc k) d lt = bases_few (before + task_length (task_values_at t.checked p)) (next_place t.checked p) ts (whole.room_next t.checked (checked_of ts) p rooms) k d (omega (arith, lt))

blocks_few : (ts : List Task) → turns_of (checked_of ts) ≤ length (checked_of ts) * 65536
unfolding total
blocks_few [] = omega arith
blocks_few (t ∷ ts) = let e = blocks_few ts in let c = size_few t 0 (omega arith) in omega (arith, e, c)

pub spelled : TaskPasses → (t : Task) (ts : List Task) → WithinLimits (t ∷ ts) → HasSpelling (cert_of t.checked (checked_of ts))
spelled passes t ts limits =
    let all = t ∷ ts in
    let fits = free_few all limits in
    let n = limits.few_tasks in
    let s = limits.few_steps in
    let run = (whole.batch_runs passes t ts fits (omega (arith, n))).count in
    let rows = tasks_count t ts (first_place (checked_of all)) in
    let marks = marks_count 4 (first_place (checked_of all)) all in
    let room = fills 1 (free_from (checked_of all)) (all_cells (checked_of all)) (all_rise all) in
    let blocks = blocks_few all in
    record {
      few_tasks = omega (arith, marks, n);
      few_bases = bases_few 4 (first_place (checked_of all)) all (whole.rooms_of (checked_of all) fits);
      few_cells = omega (arith, room, fits);
      few_states = omega (arith, run, rows, n, s, blocks);
      no_task_alone = λ e. absurd (other e);
    }
  where
    other : batch ≡ alone → ⊥
    other e = cc
