-- The whole batch: all tasks by induction, and the run over the cells.
use Rattle.std.proofs.Common.{◌≡◌, ℕ, zero, suc, ◌+◌, ◌-◌, ◌^◌, ◌<◌, List, [], ◌∷◌, ◌++◌, drop, length, slice_get, Option, Some, None, inl, inr, refl, sym, ap, subst, ◌∙◌, arith, lit<}
use Rattle.goldi_field.specs.Numbers.{prime}
use Rattle.cairo_model.specs.Machine.Steps.{field_arithmetic}
use Rattle.cairo_model.specs.Machine.FieldMemories.{FieldCell}
use Rattle.cairo_model.specs.Pie.Acceptance.{CheckedRecord}
use Rattle.boot_program.specs.Words.{boot_words, boot_end, HasBoot}
use Rattle.batch_plan.specs.Parts.{BatchParts}
use Rattle.batch_runner.specs.Working.Tasks.{Task, checked_of}
use Rattle.batch_runner.specs.Layout.{bases_at, boot_frame, end_place, first_place, hash_from, more_turns, next_place, output_from, output_size, range_from, size, total}
use Rattle.batch_runner.specs.Working.Rooms.{free_from}
use Rattle.batch_runner.specs.Memory.{all_cells, frame_part, frames, gap_of, hashes, turn_values_at, output_part, outputs, part, placed_on, programs, ranges, stops_at, turn_cells, words_at, words_part}
use Rattle.batch_runner.specs.Pieces.{Stands, numbered}
use Rattle.batch_runner.specs.Rows.{batch_length, batch_rows, memory_of_batch, values_of_all, task_values_at}
use Rattle.batch_runner.specs.Working.Memories.{HasEach, HasAllParts, HasTask}
use Rattle.batch_runner.specs.Working.Rooms.{HasRoom, HasRooms}
use Rattle.batch_runner.specs.Working.TaskRuns.{TaskPasses}
use Rattle.cairo_model.specs.Machine.Addresses.{up, down}
use Rattle.boot_program.specs.Cells.{EntryCells, ExitCells, IsPresent, state}
use Rattle.boot_program.specs.Instances.{InOrderFrom, eight}
use Rattle.boot_program.specs.Frames.{own_list, own_hash}
use Rattle.cairo_model.specs.Machine.Runs.{Passes}
use Rattle.boot_program.specs.Tasks.{TasksRun, tasks_end}
use Rattle.boot_program.proofs.FrameLaws.{entry_from}
use Rattle.boot_program.proofs.BatchLaws.{batch_goes}
use Rattle.cairo_model.proofs.RunParts.{ends_at}
use Rattle.boot_program.proofs.Statements.{there}
use Rattle.batch_runner.proofs.PartsRise.{all_rise}
use Rattle.batch_runner.proofs.HavingCells.{has_all, has_first, has_second, in_order}
use Rattle.batch_runner.proofs.TaskPlaced as placed

first_numbered : (a v base : ℕ) (xs ys : List ℕ) → Stands a v (numbered base xs) → Stands a v (numbered base (xs ++ ys))
unfolding Stands numbered
first_numbered a v base [] ys none = absurd none
first_numbered a v base (x ∷ xs) ys (inl is) = inl is
first_numbered a v base (x ∷ xs) ys (inr later) = inr (first_numbered a v (suc base) xs ys later)

pub room_here : (t : CheckedRecord) (ts : List CheckedRecord) (p : BatchParts) → HasRooms p (t ∷ ts) → HasRoom t p
unfolding total
room_here t ts p r =
    let a = r.turn_rooms in let b = r.output_rooms in let c = r.range_rooms in let d = r.hash_rooms in let e = r.program_rooms in
    record { above_boot = r.above_boot; turn_room = omega (arith, a); output_room = omega (arith, b); range_room = omega (arith, c); hash_room = omega (arith, d); program_room = omega (arith, e) }

pub room_next : (t : CheckedRecord) (ts : List CheckedRecord) (p : BatchParts) → HasRooms p (t ∷ ts) → HasRooms (next_place t p) ts
unfolding total
room_next t ts p r =
    let z = r.above_boot in let a = r.turn_rooms in let b = r.output_rooms in let c = r.range_rooms in let d = r.hash_rooms in let e = r.program_rooms in
    record { above_boot = omega (arith, z); turn_rooms = omega (arith, a); output_rooms = omega (arith, b); range_rooms = omega (arith, c); hash_rooms = omega (arith, d); program_rooms = omega (arith, e) }

module _ (m : ℕ → Option ℕ) where
  -- the state of the loop over tasks stands at the head of each turn, and after the last
  pub state_stands : (p : BatchParts) (ts : List Task) → HasEach m (frames p (checked_of ts)) → HasEach m (numbered p.frame (length (checked_of ts) ∷ p.output ∷ p.range ∷ p.hash ∷ []))
  unfolding frames
  state_stands p [] has a v is = has a v is
  state_stands p (t ∷ ts) has a v is =
      has_first m (turn_cells (suc (length (checked_of ts))) t.checked p) (part t.checked p 1 ++ frames (next_place t.checked p) (checked_of ts)) has a v
      (first_numbered a v p.frame (suc (length (checked_of ts)) ∷ p.output ∷ p.range ∷ p.hash ∷ [])
      (drop 4 (own_list boot_frame (suc (length (checked_of ts))) (turn_values_at t.checked p) (gap_of t.checked p) (output_size t.checked) (stops_at (next_place t.checked p)))) is)

  pub parts_next : (t : Task) (ts : List Task) (p : BatchParts) → HasAllParts m p (t ∷ ts) → HasAllParts m (next_place t.checked p) ts
  unfolding frames outputs ranges hashes programs
  parts_next t ts p has = record {
    frame = has_second m (part t.checked p 1) (frames (next_place t.checked p) (checked_of ts)) (has_second m (turn_cells (suc (length (checked_of ts))) t.checked p) (part t.checked p 1 ++ frames (next_place t.checked p) (checked_of ts)) has.frame);
    output = has_second m (part t.checked p 2) (outputs (next_place t.checked p) (checked_of ts)) (has_second m (numbered p.output (output_size t.checked ∷ eight (words_at t.checked (more_turns (size t.checked 0) + 1)))) (part t.checked p 2 ++ outputs (next_place t.checked p) (checked_of ts)) has.output);
    range = has_second m (part t.checked p 3) (ranges (next_place t.checked p) (checked_of ts)) has.range;
    hash = has_second m (part t.checked p 4) (hashes (next_place t.checked p) (checked_of ts)) (has_second m (numbered p.hash (own_hash (turn_values_at t.checked p))) (part t.checked p 4 ++ hashes (next_place t.checked p) (checked_of ts)) has.hash);
    program =
        let others = placed_on (bases_at t.checked p) 7 (drop 7 t.checked.pie.sizes) t.checked.pie.cells in
        let rest = programs (next_place t.checked p) (checked_of ts) in
        has_second m others rest (has_second m (numbered (p.program + size t.checked 0) (0 ∷ 0 ∷ 0 ∷ [])) (others ++ rest) (has_second m (part t.checked p 0) (numbered (p.program + size t.checked 0) (0 ∷ 0 ∷ 0 ∷ []) ++ (others ++ rest)) has.program));
  }

  pub task_there : (t : Task) (ts : List Task) (p : BatchParts) → HasAllParts m p (t ∷ ts) → HasTask m (length (checked_of ts)) t p
  unfolding frames outputs ranges hashes programs
  task_there t ts p has =
      let frame = has_second m (turn_cells (suc (length (checked_of ts))) t.checked p) (part t.checked p 1 ++ frames (next_place t.checked p) (checked_of ts)) has.frame in
      let others = placed_on (bases_at t.checked p) 7 (drop 7 t.checked.pie.sizes) t.checked.pie.cells in
      let rest = programs (next_place t.checked p) (checked_of ts) in
      let after = has_second m (part t.checked p 0) (numbered (p.program + size t.checked 0) (0 ∷ 0 ∷ 0 ∷ []) ++ (others ++ rest)) has.program in
      let header = numbered p.output (output_size t.checked ∷ eight (words_at t.checked (more_turns (size t.checked 0) + 1))) in
      record {
        own = has_first m (turn_cells (suc (length (checked_of ts))) t.checked p) (part t.checked p 1 ++ frames (next_place t.checked p) (checked_of ts)) has.frame;
        execution = has_first m (part t.checked p 1) (frames (next_place t.checked p) (checked_of ts)) frame;
        header = has_first m header (part t.checked p 2 ++ outputs (next_place t.checked p) (checked_of ts)) has.output;
        output = has_first m (part t.checked p 2) (outputs (next_place t.checked p) (checked_of ts)) (has_second m header (part t.checked p 2 ++ outputs (next_place t.checked p) (checked_of ts)) has.output);
        range = has_first m (part t.checked p 3) (ranges (next_place t.checked p) (checked_of ts)) has.range;
        instances = has_first m (numbered p.hash (own_hash (turn_values_at t.checked p))) (part t.checked p 4 ++ hashes (next_place t.checked p) (checked_of ts)) has.hash;
        hash = has_first m (part t.checked p 4) (hashes (next_place t.checked p) (checked_of ts)) (has_second m (numbered p.hash (own_hash (turn_values_at t.checked p))) (part t.checked p 4 ++ hashes (next_place t.checked p) (checked_of ts)) has.hash);
        program = has_first m (part t.checked p 0) (numbered (p.program + size t.checked 0) (0 ∷ 0 ∷ 0 ∷ []) ++ (others ++ rest)) has.program;
        zeros = has_first m (numbered (p.program + size t.checked 0) (0 ∷ 0 ∷ 0 ∷ [])) (others ++ rest) after;
        others = has_first m others rest (has_second m (numbered (p.program + size t.checked 0) (0 ∷ 0 ∷ 0 ∷ [])) (others ++ rest) after);
        next = state_stands (next_place t.checked p) ts (has_second m (part t.checked p 1) (frames (next_place t.checked p) (checked_of ts)) frame);
      }

  module _ (passes : TaskPasses) (idle : IsPresent m (down boot_frame 1)) where
    -- all tasks run, one after the other
    pub tasks_run : (t : Task) (ts : List Task) (p : BatchParts) → HasRooms p (checked_of (t ∷ ts)) → HasAllParts m p (t ∷ ts) → length (checked_of ts) < 2 ^ 32
        → TasksRun m (p.frame + 4) boot_frame (suc (length (checked_of ts))) (task_values_at t.checked p) (values_of_all (next_place t.checked p) (checked_of ts))
    unfolding TasksRun values_of_all
    tasks_run t [] p rooms has few =
        let room = room_here t.checked (checked_of []) p rooms in
        let task = task_there t [] p has in
        (placed.task_runs m 0 t p room task few passes idle, placed.one_less m 0 t p room task few passes idle)
    tasks_run t (next ∷ ts) p rooms has few =
        let room = room_here t.checked (checked_of (next ∷ ts)) p rooms in
        let task = task_there t (next ∷ ts) p has in
        let left = length (checked_of (next ∷ ts)) in
        let less = placed.one_less m left t p room task few passes idle in
        let turn = placed.next_is m left t p room task few passes idle in
        let later = tasks_run next ts (next_place t.checked p) (room_next t.checked (checked_of (next ∷ ts)) p rooms) (parts_next t (next ∷ ts) p has) (omega (arith, few)) in (
          placed.task_runs m left t p room task few passes idle,
          (λ e. absurd (omega (arith, e, less))),
          subst (λ (x : ℕ). TasksRun m x boot_frame (down (suc left) 1) (task_values_at next.checked (next_place t.checked p)) (values_of_all (next_place next.checked (next_place t.checked p)) (checked_of ts))) (sym turn)
              (subst (λ (x : ℕ). TasksRun m ((next_place t.checked p).frame + 4) boot_frame x (task_values_at next.checked (next_place t.checked p)) (values_of_all (next_place next.checked (next_place t.checked p)) (checked_of ts))) (sym less) later),
        )

    pub tasks_end_is : (t : Task) (ts : List Task) (p : BatchParts) → HasRooms p (checked_of (t ∷ ts)) → HasAllParts m p (t ∷ ts) → length (checked_of ts) < 2 ^ 32
        → tasks_end (task_values_at t.checked p) (values_of_all (next_place t.checked p) (checked_of ts)) ≡ (end_place p (checked_of (t ∷ ts))).frame + 4
    unfolding tasks_end values_of_all end_place
    tasks_end_is t [] p rooms has few = placed.next_is m 0 t p (room_here t.checked (checked_of []) p rooms) (task_there t [] p has) few passes idle
    tasks_end_is t (next ∷ ts) p rooms has few =
        tasks_end_is next ts (next_place t.checked p) (room_next t.checked (checked_of (next ∷ ts)) p rooms) (parts_next t (next ∷ ts) p has) (omega (arith, few))

-- where a list has a value
stands_get : (base : ℕ) (vs : List ℕ) (i w : ℕ) → slice_get vs i ≡ Some w → Stands (base + i) w (numbered base vs)
unfolding Stands numbered
stands_get base [] i w is = absurd (cc)
stands_get base (v ∷ vs) zero w is = inl (omega arith, same is)
  where
    same : Some v ≡ Some w → v ≡ w
    same e = cc
stands_get base (v ∷ vs) (suc i) w is = let e : suc base + i ≡ base + suc i = omega arith in
    inr (subst (λ (x : ℕ). Stands x w (numbered (suc base) vs)) e (stands_get (suc base) vs i w is))

has_boot : (m : ℕ → Option ℕ) → HasEach m words_part → HasBoot m
has_boot m has zero w is = absurd (none is)
  where
    none : None ≡ Some w → ⊥
    none e = cc
has_boot m has (suc i) w is = let e : 1 + i ≡ suc i = omega arith in has (suc i) w (subst (λ (x : ℕ). Stands x w words_part) e (stands_get 1 boot_words i w is))

pub rooms_of : (ts : List CheckedRecord) → free_from ts < 2 ^ 32 → HasRooms (first_place ts) ts
rooms_of ts fits = record {
  above_boot = omega arith;
  turn_rooms = omega arith;
  output_rooms = omega arith;
  range_rooms = omega arith;
  hash_rooms = omega arith;
  program_rooms = fits;
}

module _ (ts : List Task) where
  abbrev m : ℕ → Option ℕ
  m = memory_of_batch (checked_of ts)

  abbrev p : BatchParts
  p = first_place (checked_of ts)

  abbrev above : List FieldCell
  above = frame_part (checked_of ts) ++ (output_part (checked_of ts) ++ (ranges p (checked_of ts) ++ (hashes p (checked_of ts) ++ programs p (checked_of ts))))

  all_there : HasEach m (words_part ++ above)
  all_there = has_all 1 (free_from (checked_of ts)) (all_cells (checked_of ts)) (all_rise ts)

  above_there : HasEach m above
  above_there = has_second m words_part above all_there

  frame_there : HasEach m (frame_part (checked_of ts))
  frame_there = has_first m (frame_part (checked_of ts)) (output_part (checked_of ts) ++ (ranges p (checked_of ts) ++ (hashes p (checked_of ts) ++ programs p (checked_of ts)))) above_there

  after_frame : HasEach m (output_part (checked_of ts) ++ (ranges p (checked_of ts) ++ (hashes p (checked_of ts) ++ programs p (checked_of ts))))
  after_frame = has_second m (frame_part (checked_of ts)) (output_part (checked_of ts) ++ (ranges p (checked_of ts) ++ (hashes p (checked_of ts) ++ programs p (checked_of ts)))) above_there

  pub output_there : HasEach m (output_part (checked_of ts))
  output_there = has_first m (output_part (checked_of ts)) (ranges p (checked_of ts) ++ (hashes p (checked_of ts) ++ programs p (checked_of ts))) after_frame

  after_output : HasEach m (ranges p (checked_of ts) ++ (hashes p (checked_of ts) ++ programs p (checked_of ts)))
  after_output = has_second m (output_part (checked_of ts)) (ranges p (checked_of ts) ++ (hashes p (checked_of ts) ++ programs p (checked_of ts))) after_frame

  after_range : HasEach m (hashes p (checked_of ts) ++ programs p (checked_of ts))
  after_range = has_second m (ranges p (checked_of ts)) (hashes p (checked_of ts) ++ programs p (checked_of ts)) after_output

  abbrev starts : List ℕ
  starts = output_from (checked_of ts) ∷ range_from (checked_of ts) ∷ hash_from (checked_of ts) ∷ 0 ∷ 118 ∷ []

  pub parts_there : HasAllParts m p ts
  parts_there = record {
    frame = has_second m (numbered 119 starts) (frames p (checked_of ts)) frame_there;
    output = has_second m (numbered (output_from (checked_of ts)) (length (checked_of ts) ∷ [])) (outputs p (checked_of ts)) output_there;
    range = has_first m (ranges p (checked_of ts)) (hashes p (checked_of ts) ++ programs p (checked_of ts)) after_output;
    hash = has_first m (hashes p (checked_of ts)) (programs p (checked_of ts)) after_range;
    program = has_second m (hashes p (checked_of ts)) (programs p (checked_of ts)) after_range;
  }

  pub boot_there : HasBoot m
  boot_there = has_boot m (has_first m words_part above all_there)

  pub starts_there : InOrderFrom m boot_frame (prime - 5) starts
  starts_there = in_order m starts boot_frame (prime - 5) 119 (lit< tt) refl (has_first m (numbered 119 starts) (frames p (checked_of ts)) frame_there)

  module _ (fits : free_from (checked_of ts) < 2 ^ 32) where
    count_there : m (up (output_from (checked_of ts)) 0) ≡ Some (length (checked_of ts))
    unfolding InOrderFrom
    count_there = (in_order m (length (checked_of ts) ∷ []) (output_from (checked_of ts)) 0 (output_from (checked_of ts)) (omega (arith, fits)) (omega (arith, fits))
        (has_first m (numbered (output_from (checked_of ts)) (length (checked_of ts) ∷ [])) (outputs p (checked_of ts)) output_there)).0

    pub enters : EntryCells m boot_frame boot_frame (length (checked_of ts)) (output_from (checked_of ts)) (range_from (checked_of ts)) (hash_from (checked_of ts))
    unfolding InOrderFrom
    enters =
        let s = starts_there in
        let f = in_order m (length (checked_of ts) ∷ p.output ∷ p.range ∷ p.hash ∷ []) boot_frame 0 124 (lit< tt) refl (state_stands m p ts parts_there.frame) in
        let e : p.output ≡ up (output_from (checked_of ts)) 1 = omega (arith, fits) in
        entry_from m boot_frame (length (checked_of ts)) (output_from (checked_of ts)) (range_from (checked_of ts)) (hash_from (checked_of ts)) 0 118
        (s.0, (s.1.0, (s.1.1.0, (s.1.1.1.0, (s.1.1.1.1.0, (f.0, (f.1.0 ∙ ap Some e, (f.1.1.0, (f.1.1.1.0, tt))))))))) count_there

    pub leaves : ExitCells m boot_frame boot_end 0
    unfolding InOrderFrom
    leaves = let s = starts_there in record { return_is = s.1.1.1.1.0; caller_is = s.1.1.1.0 }

    pub idle_there : IsPresent m (down boot_frame 1)
    unfolding InOrderFrom
    idle_there = let s = starts_there in there m s.1.1.1.1.0

pub batch_runs : TaskPasses → (t : Task) (ts : List Task) → free_from (checked_of (t ∷ ts)) < 2 ^ 32 → length (checked_of ts) < 2 ^ 32
    → Passes field_arithmetic (memory_of_batch (checked_of (t ∷ ts))) (batch_length t.checked (checked_of ts)) (state 1 boot_frame boot_frame) (batch_rows t.checked (checked_of ts)) (state boot_end ((end_place (first_place (checked_of (t ∷ ts))) (checked_of (t ∷ ts))).frame + 4) 0)
batch_runs passes t ts fits few =
    let all = t ∷ ts in
    let m = memory_of_batch (checked_of all) in
    let p = first_place (checked_of all) in
    let idle = idle_there all fits in
    let rooms = rooms_of (checked_of all) fits in
    let parts = parts_there all in
    let later = values_of_all (next_place t.checked p) (checked_of ts) in
    let end = tasks_end_is m passes idle t ts p rooms parts few in
    ends_at field_arithmetic m (batch_length t.checked (checked_of ts))
    (batch_goes m (boot_there all) boot_frame boot_frame (length (checked_of all)) (output_from (checked_of all)) (range_from (checked_of all)) (hash_from (checked_of all)) 0 (task_values_at t.checked p) later (enters all fits)
    (tasks_run m passes idle t ts p rooms parts few) (leaves all fits))
    (ap (λ x. state boot_end x 0) end)
