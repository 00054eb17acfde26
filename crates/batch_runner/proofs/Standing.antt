-- Each task stands in the certificate: its relocated states are those from its mark's row on.
use Rattle.std.proofs.Common.{◌≡◌, ◌≢◌, ℕ, zero, suc, ◌+◌, ◌^◌, ◌<◌, ◌==◌, Bool, false, if◌then◌else◌, List, [], ◌∷◌, ◌++◌, map, take, drop, length, Option, refl, sym, ap, subst, ◌∙◌, arith, append_assoc}
use Rattle.std.proofs.lemmas.List.{length-map}
use Rattle.std.proofs.lemmas.Bool.Decides.{nat_tests}
use Rattle.goldi_field.specs.Numbers.{sum_of}
use Rattle.cairo_model.specs.Machine.Values.{Datum}
use Rattle.cairo_model.specs.Machine.Steps.{field_arithmetic, Registers, value_arithmetic, RunsTo, last_of}
use Rattle.cairo_model.specs.Pie.Records.{memory_of}
use Rattle.cairo_model.specs.Pie.Layouts.{base_of, relocated_state}
use Rattle.cairo_model.specs.Machine.FieldMemories.{cell_at}
use Rattle.cairo_model.specs.Pie.Acceptance.{start_of}
use Rattle.cairo_model.specs.Certificate.Records.{CertRecord}
use Rattle.cairo_model.specs.Pie.Relocation.{HasRelocated}
use Rattle.boot_program.specs.Words.{boot_code, HasBoot}
use Rattle.boot_program.specs.Rows.{symbolic_state, rows_from}
use Rattle.cairo_model.specs.Machine.Addresses.{up, down}
use Rattle.boot_program.specs.Cells.{IsPresent, frame_at, state}
use Rattle.cairo_model.specs.Machine.Runs.{Passes}
use Rattle.boot_program.specs.Turns.{TurnValues, task_start, turn_length, turn_rows_of}
use Rattle.boot_program.specs.Tasks.{TaskValues, TaskRuns, next_turn, task_rows, tasks_rows, task_length}
use Rattle.boot_program.proofs.TurnLaws.{turn_goes}
use Rattle.boot_program.proofs.BatchLaws.{task_goes}
use Rattle.batch_plan.specs.Parts.{BatchParts}
use Rattle.batch_runner.specs.Certificates.{marks_from}
use Rattle.batch_runner.specs.Working.Tasks.{Task, checked_of}
use Rattle.batch_runner.specs.Layout.{bases_at, boot_frame, more_turns, next_place, size}
use Rattle.batch_runner.specs.Memory.{turn_values_at}
use Rattle.batch_runner.specs.Rows.{values_of_all, task_values_at}
use Rattle.batch_runner.specs.Working.Marks.{MarksStand, MarkStands}
use Rattle.batch_runner.specs.Working.Memories.{HasAllParts}
use Rattle.batch_runner.specs.Working.Rooms.{HasRooms}
use Rattle.batch_runner.specs.Working.TaskRuns.{StandsAtCall, TaskPasses}
use Rattle.batch_runner.proofs.TaskPlaced as placed
use Rattle.batch_runner.proofs.Fitting as fitting
use Rattle.batch_runner.proofs.WholeBatch as whole

-- where a run ends, its last state is the first of what follows
pub drop_run : (n : ℕ) (s : Registers ℕ) (rows rest : List (Registers ℕ)) → length rows ≡ n → drop n (s ∷ (rows ++ rest)) ≡ last_of s rows ∷ rest
drop_run zero s [] rest count = refl
drop_run zero s (r ∷ rows) rest count = absurd (omega (arith, count))
drop_run (suc n) s [] rest count = absurd (omega (arith, count))
drop_run (suc n) s (r ∷ rows) rest count = drop_run n r rows rest (omega (arith, count))

pub drop_more : (n k : ℕ) (xs : List (Registers ℕ)) → drop (n + k) xs ≡ drop k (drop n xs)
drop_more zero k xs = ap (λ n. drop n xs) (omega arith)
drop_more (suc n) k [] = nothing k (suc n + k)
  where
    nothing : (k n : ℕ) → drop {A = Registers ℕ} n [] ≡ drop {A = Registers ℕ} k []
    nothing zero zero = refl
    nothing zero (suc n) = refl
    nothing (suc k) zero = refl
    nothing (suc k) (suc n) = refl
drop_more (suc n) k (x ∷ xs) = ap (λ j. drop j (x ∷ xs)) (shift n k) ∙ drop_more n k xs
  where
    shift : (n k : ℕ) → suc n + k ≡ suc (n + k)
    shift n k = omega arith

take_whole : (n : ℕ) (xs ys : List (Registers ℕ)) → length xs ≡ n → take n (xs ++ ys) ≡ xs
take_whole zero [] ys count = refl
take_whole zero (x ∷ xs) ys count = absurd (omega (arith, count))
take_whole (suc n) [] ys count = absurd (omega (arith, count))
take_whole (suc n) (x ∷ xs) ys count = ap (λ l. x ∷ l) (take_whole n xs ys (omega (arith, count)))

pub by_passes : (m : ℕ → Option ℕ) (n : ℕ) (s t : Registers ℕ) (rows rest : List (Registers ℕ)) → Passes field_arithmetic m n s rows t → drop n (s ∷ (rows ++ rest)) ≡ t ∷ rest
by_passes m n s t rows rest by = drop_run n s rows rest by.count ∙ ap (λ x. x ∷ rest) by.ends

-- a run's states begin with its first
states_split : (f : Registers Datum → Registers ℕ) (m : Datum → Option Datum) (s t : Registers Datum) (ss : List (Registers Datum)) → RunsTo value_arithmetic m s ss t → map f ss ≡ f s ∷ drop 1 (map f ss)
states_split f m s t [] none = absurd none
states_split f m s t (u ∷ us) run = ap (λ x. f x ∷ map f us) run.0

pub start_is : (a : ℕ) (n : TurnValues) (bases : List ℕ) (t : Task) → StandsAtCall a n bases t.checked.pie → relocated_state bases (start_of t.checked.pie) ≡ task_start a n
start_is a n bases t at =
    ap (λ x. state (sum_of x t.checked.pie.main) (up (base_of bases 1) 5) (up (base_of bases 1) 5)) at.program
    ∙ ap (λ x. state (sum_of n.task.program x) (up (base_of bases 1) 5) (up (base_of bases 1) 5)) at.main
    ∙ ap (λ x. state (sum_of n.task.program n.task.main) x x) at.execution

module _ (cert : CertRecord) (m : ℕ → Option ℕ) (same : cell_at cert.cells ≡ m) (boot : HasBoot m) (passes : TaskPasses) (idle : IsPresent m (down boot_frame 1)) (tail : List (Registers ℕ)) where
  module _ (t : Task) (ts : List Task) (p : BatchParts) (before : ℕ) (rooms : HasRooms p (checked_of (t ∷ ts))) (has : HasAllParts m p (t ∷ ts)) (few : length (checked_of ts) < 2 ^ 32) (later : List (Registers ℕ))
      (rows : drop before cert.states ≡ state 6 (p.frame + 4) boot_frame ∷ (task_rows m (p.frame + 4) boot_frame (task_values_at t.checked p) ++ later)) where
    abbrev a : ℕ
    a = p.frame + 4

    abbrev names : TaskValues
    names = task_values_at t.checked p

    runs : TaskRuns m a boot_frame (suc (length (checked_of ts))) names
    runs = placed.task_runs m (length (checked_of ts)) t p (whole.room_here t.checked (checked_of ts) p rooms) (whole.task_there m t ts p has) few passes idle

    abbrev home_rows : List (Registers ℕ)
    home_rows = rows_from boot_code 11 m (symbolic_state 106 names.final_ap (frame_at a)) ++ rows_from boot_code 1 m (symbolic_state 8 (next_turn names) boot_frame)

    -- at the mark's row
    at_mark : drop (before + turn_length (more_turns (size t.checked 0))) cert.states ≡ task_start a (turn_values_at t.checked p) ∷ ((names.states ++ home_rows) ++ later)
    at_mark =
        let turn = turn_rows_of m a boot_frame (more_turns (size t.checked 0)) in
        drop_more before (turn_length (more_turns (size t.checked 0))) cert.states
        ∙ ap (drop (turn_length (more_turns (size t.checked 0)))) (rows ∙ ap (λ l. state 6 a boot_frame ∷ l) (append_assoc turn (names.states ++ home_rows) later))
        ∙ by_passes m (turn_length (more_turns (size t.checked 0))) (state 6 a boot_frame) (task_start a (turn_values_at t.checked p)) turn ((names.states ++ home_rows) ++ later) (turn_goes m boot a boot_frame (turn_values_at t.checked p) runs.cells)

    pub stands : MarkStands cert (record { row = before + turn_length (more_turns (size t.checked 0)); bases = bases_at t.checked p }) t.checked
    stands =
        let room = whole.room_here t.checked (checked_of ts) p rooms in
        let task = whole.task_there m t ts p has in
        let pie = t.checked.pie in
        let start = start_is a (turn_values_at t.checked p) (bases_at t.checked p) t (placed.at_call m (length (checked_of ts)) t p room task few) in
        let run = t.accepted.isolated.runs in
        let split = states_split (relocated_state (bases_at t.checked p)) (memory_of pie.cells) (start_of pie) t.accepted.isolated.last t.checked.states run in
        let count = t.accepted.isolated.count in
        let mapped = length-map t.checked.states (relocated_state (bases_at t.checked p)) in
        let whole_states : task_start a (turn_values_at t.checked p) ∷ names.states ≡ map (relocated_state (bases_at t.checked p)) t.checked.states =
        ap (λ s. s ∷ names.states) (sym start) ∙ sym split in
        let number : length (task_start a (turn_values_at t.checked p) ∷ names.states) ≡ pie.steps + 1 = ap length whole_states ∙ mapped ∙ count in
        record {
          one_each = fitting.one_each t p room;
          cells_there = subst (λ (f : ℕ → Option ℕ). HasRelocated (bases_at t.checked p) (memory_of pie.cells) f) (sym same) (placed.relocated_there m (length (checked_of ts)) t p room task few);
          states_there = ap (take (pie.steps + 1)) (at_mark ∙ ap (λ l. task_start a (turn_values_at t.checked p) ∷ l) (append_assoc names.states home_rows later))
              ∙ take_whole (pie.steps + 1) (task_start a (turn_values_at t.checked p) ∷ names.states) (home_rows ++ later) number ∙ whole_states;
        }

    pub after_task : length (checked_of ts) ≢ 0 → drop (before + task_length names) cert.states ≡ state 6 ((next_place t.checked p).frame + 4) boot_frame ∷ later
    after_task some =
        let room = whole.room_here t.checked (checked_of ts) p rooms in
        let task = whole.task_there m t ts p has in
        let goes = task_goes m boot boot_frame a (suc (length (checked_of ts))) names runs in
        let less = placed.one_less m (length (checked_of ts)) t p room task few passes idle in
        let next = placed.next_is m (length (checked_of ts)) t p room task few passes idle in
        let on : (down (suc (length (checked_of ts))) 1 == 0) ≡ false = not_zero (down (suc (length (checked_of ts))) 1) (λ e. some (sym less ∙ e)) in
        drop_more before (task_length names) cert.states ∙ ap (drop (task_length names)) rows
        ∙ by_passes m (task_length names) (state 6 a boot_frame) _ (task_rows m a boot_frame names) later goes
        ∙ ap (λ (b : Bool). state (if b then 10 else 6) (next_turn names) boot_frame ∷ later) on ∙ ap (λ x. state 6 x boot_frame ∷ later) next
      where
        not_zero : (x : ℕ) → x ≢ 0 → (x == 0) ≡ false
        not_zero x some = grind (arith, nat_tests, some)

  pub all_stand : (t : Task) (ts : List Task) (p : BatchParts) (before : ℕ) → HasRooms p (checked_of (t ∷ ts)) → HasAllParts m p (t ∷ ts) → length (checked_of ts) < 2 ^ 32
      → drop before cert.states ≡ state 6 (p.frame + 4) boot_frame ∷ (tasks_rows m (p.frame + 4) boot_frame (task_values_at t.checked p) (values_of_all (next_place t.checked p) (checked_of ts)) ++ tail)
      → MarksStand cert (marks_from before p (checked_of (t ∷ ts))) (t ∷ ts)
  unfolding MarksStand marks_from tasks_rows values_of_all
  all_stand t [] p before rooms has few rows = (stands t [] p before rooms has few tail rows, tt)
  all_stand t (next ∷ ts) p before rooms has few rows =
      let room = whole.room_here t.checked (checked_of (next ∷ ts)) p rooms in
      let task = whole.task_there m t (next ∷ ts) p has in
      let q = next_place t.checked p in
      let here = placed.next_is m (length (checked_of (next ∷ ts))) t p room task few passes idle in
      let later = tasks_rows m (q.frame + 4) boot_frame (task_values_at next.checked q) (values_of_all (next_place next.checked q) (checked_of ts)) ++ tail in
      let own = task_rows m (p.frame + 4) boot_frame (task_values_at t.checked p) in
      let rows_here : drop before cert.states ≡ state 6 (p.frame + 4) boot_frame ∷ (own ++ later) =
      rows ∙ ap (λ l. state 6 (p.frame + 4) boot_frame ∷ l) (append_assoc own (tasks_rows m (next_turn (task_values_at t.checked p)) boot_frame (task_values_at next.checked q) (values_of_all (next_place next.checked q) (checked_of ts))) tail)
      ∙ ap (λ x. state 6 (p.frame + 4) boot_frame ∷ (own ++ (tasks_rows m x boot_frame (task_values_at next.checked q) (values_of_all (next_place next.checked q) (checked_of ts)) ++ tail))) here in (
        stands t (next ∷ ts) p before rooms has few later rows_here,
        all_stand next ts q (before + task_length (task_values_at t.checked p)) (whole.room_next t.checked (checked_of (next ∷ ts)) p rooms) (whole.parts_next m t (next ∷ ts) p has) (omega (arith, few))
            (after_task t (next ∷ ts) p before rooms has few later rows_here (λ e. absurd (omega (arith, e)))),
      )
