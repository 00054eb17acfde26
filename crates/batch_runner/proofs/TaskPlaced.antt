-- One task of a batch from its cells: its turn, its own run and coming home.
use Rattle.std.proofs.Common.{◌≡◌, ℕ, zero, suc, ◌+◌, ◌-◌, ◌*◌, ◌/◌, ◌%◌, ◌^◌, ◌<◌, ◌≤◌, List, [], ◌∷◌, drop, length, slice_index, Option, Some, inl, inr, refl, sym, ap, subst, ◌∙◌, arith, lit<, length-drop}
use Rattle.std.proofs.lemmas.Bool.{cases_lt}
use Rattle.std.proofs.lemmas.List.{get_or_past}
use Rattle.std.proofs.lemmas.List.Sums.{get_or-le-sum_by}
use Rattle.goldi_field.specs.Numbers.{prime, sum_of, product_of}
use Rattle.cairo_model.specs.Machine.Values.{Datum, number, place}
use Rattle.cairo_model.specs.Pie.Records.{memory_of}
use Rattle.cairo_model.specs.Segments.{frame_segments, builtin_mask}
use Rattle.cairo_model.specs.Pie.Layouts.{base_of, relocated}
use Rattle.cairo_model.specs.Pie.Acceptance.{start_of}
use Rattle.cairo_model.specs.Pie.Relocation.{HasRelocated}
use Rattle.batch_plan.specs.Parts.{BatchParts}
use Rattle.batch_runner.specs.Working.Tasks.{Task}
use Rattle.batch_runner.specs.Layout.{bases_at, boot_frame, code_of, more_turns, next_place, output_size, size, turn_size, zeros_for}
use Rattle.batch_runner.specs.Memory.{gap_of, final_ap_of, turn_values_at, code_numbers_at, part, stops_at}
use Rattle.batch_runner.specs.Pieces.{numbered}
use Rattle.batch_runner.specs.Rows.{task_values_at}
use Rattle.batch_runner.specs.Working.Memories.{HasEach, HasTask}
use Rattle.batch_runner.specs.Working.Rooms.{HasRoom}
use Rattle.batch_runner.specs.Working.TaskRuns.{StandsAtCall, TaskLeaves, TaskPasses}
use Rattle.cairo_model.specs.Machine.Addresses.{up, down}
use Rattle.boot_program.specs.Cells.{IsPresent, BranchCells, frame_at, code_end}
use Rattle.boot_program.specs.Instances.{InOrderFrom, instance_end}
use Rattle.boot_program.specs.HashLoop.{hash_loop_end}
use Rattle.boot_program.specs.Turns.{call_at, hash_loop_start}
use Rattle.boot_program.specs.Frames.{Counts, HoldsTurn, code_list, own_list}
use Rattle.boot_program.specs.Tasks.{TaskRuns, next_turn}
use Rattle.boot_program.proofs.OwnLaws as own
use Rattle.batch_runner.proofs.PiecesLaws.{stands_numbered}
use Rattle.batch_runner.proofs.ReadOff.{code_count, code_each, last_is}
use Rattle.batch_runner.proofs.PartsRise.{length_own, length_hash}
use Rattle.batch_runner.proofs.HavingCells.{in_order, code_region, cell_has, has_others, has_relocated}
use Rattle.batch_runner.proofs.TaskRuns.{called_task_runs}
use Rattle.batch_runner.proofs.Fitting.{one_each, fits_at}

-- where the loops end
loop_end_is : (more a : ℕ) → hash_loop_end more a ≡ sum_of a (15 * (more + 1))
unfolding hash_loop_end
loop_end_is zero a = omega arith
loop_end_is (suc more) a = let e = loop_end_is more (up a 15) in omega (arith, e)

instance_end_is : (more x : ℕ) → instance_end more x ≡ sum_of x (20 * (more + 1))
unfolding instance_end
instance_end_is zero x = omega arith
instance_end_is (suc more) x = let e = instance_end_is more (up x 20) in omega (arith, e)

-- the bits and counts of a code of c words
is_bit : (u : ℕ) → u ≤ 1 → u ≡ product_of u u
is_bit zero le = omega arith
is_bit (suc zero) le = omega arith
is_bit (suc (suc u)) le = absurd (omega (arith, le))

counts_down : (more left : ℕ) → left ≡ 4 * (more + 1) → more < 2 ^ 32 → Counts more left
unfolding Counts
counts_down zero left is few = omega (arith, is)
counts_down (suc more) left is few = (λ e. absurd (omega (arith, is, few, e)), counts_down more (down left 4) (omega (arith, is, few)) (omega (arith, few)))

filled_is : (c : ℕ) → 0 < c → c ≤ 65536 → sum_of (sum_of (sum_of c (zeros_for c % 2)) (zeros_for c / 2)) (zeros_for c / 2) ≡ 4 * (more_turns c + 1)
filled_is c some few = omega (arith, some, few)

module _ (m : ℕ → Option ℕ) (left : ℕ) (t : Task) (p : BatchParts) (room : HasRoom t.checked p) (has : HasTask m left t p) (few : left < 2 ^ 32) where
  abbrev bases : List ℕ
  bases = bases_at t.checked p

  abbrev c : ℕ
  c = size t.checked 0

  abbrev start : ℕ
  start = p.frame + 4

  code_some : 0 < c
  code_some = let e = t.accepted.main_in_code in omega (arith, e)

  size_small : (s : ℕ) → s < length t.checked.pie.sizes → size t.checked s ≤ 65536
  size_small s lt = let e = t.accepted.rules.are_sizes.in_all in let f = get_or-le-sum_by (λ (x : ℕ). x) t.checked.pie.sizes s 0 lt in omega (arith, e, f)

  code_few : c ≤ 65536
  code_few = let e = t.accepted.rules.are_sizes.at_least in size_small 0 (omega (arith, e))

  zero_at : (x j : ℕ) → j < 3 → HasEach m (numbered x (0 ∷ 0 ∷ 0 ∷ [])) → m (x + j) ≡ Some 0
  zero_at x zero lt h = h _ _ (stands_numbered x (0 ∷ 0 ∷ 0 ∷ []) 0 (lit< tt))
  zero_at x (suc zero) lt h = h _ _ (stands_numbered x (0 ∷ 0 ∷ 0 ∷ []) 1 (lit< tt))
  zero_at x (suc (suc zero)) lt h = h _ _ (stands_numbered x (0 ∷ 0 ∷ 0 ∷ []) 2 (lit< tt))
  zero_at x (suc (suc (suc j))) lt h = absurd (omega (arith, lt))

  -- the code's words, then zeros
  code_plain : (n : ℕ) → n < 4 * (more_turns c + 1) → m (p.program + n) ≡ Some (slice_index (code_of t.checked) n)
  code_plain n lt = elim (cases_lt n c) [
    | inl inside ↦ cell_has m bases 0 n (number (slice_index (code_of t.checked) n)) t.checked.pie.cells has.program (code_each t n inside)
    | inr past ↦ after n lt past
  ]
    where
      after : (n : ℕ) → n < 4 * (more_turns c + 1) → c ≤ n → m (p.program + n) ≡ Some (slice_index (code_of t.checked) n)
      after n lt past =
          let some = code_some in
          let count = code_count t in
          let place : p.program + n ≡ p.program + c + (n - c) = omega (arith, past) in
          let near : n - c < 3 = omega (arith, lt, past, some) in
          ap m place ∙ zero_at (p.program + c) (n - c) near has.zeros ∙ ap Some (sym (get_or_past (code_of t.checked) n 0 (omega (arith, past, count))))

  code_at : (n : ℕ) → n < 4 * (more_turns c + 1) → m (up p.program n) ≡ Some (slice_index (code_of t.checked) n)
  code_at n lt =
      let r = room.program_room in
      let few = code_few in
      let some = code_some in
      let plain_number : up p.program n ≡ p.program + n = omega (arith, r, lt, few, some) in
      ap m plain_number ∙ code_plain n lt

  code_stands : InOrderFrom m p.program 0 (code_list (more_turns c) (code_numbers_at t.checked))
  code_stands = code_region m (more_turns c) p.program (code_numbers_at t.checked) (λ n. slice_index (code_of t.checked) n)
      (λ j. (ap (slice_index (code_of t.checked)) (first j), refl, refl, refl)) code_at
    where
      first : (j : ℕ) → 4 * j + 0 ≡ 4 * j
      first j = omega arith

  -- where the task is called
  loop_ends : hash_loop_end (more_turns c) (hash_loop_start start) ≡ p.frame + (27 + 15 * (more_turns c + 1))
  loop_ends =
      let e = loop_end_is (more_turns c) (hash_loop_start start) in
      let r = room.turn_room in let q = room.program_room in let o = room.output_room in let u = room.range_room in let h = room.hash_room in
      omega (arith, e, r, q, o, u, h)

  call_is : call_at start (turn_values_at t.checked p) ≡ p.frame + (41 + 15 * (more_turns c + 1))
  call_is =
      let e = loop_ends in
      let r = room.turn_room in let q = room.program_room in let o = room.output_room in let u = room.range_room in let h = room.hash_room in
      omega (arith, e, r, q, o, u, h)

  instances_end : instance_end (more_turns c) (up p.hash 20) ≡ p.hash + 20 * (more_turns c + 2)
  instances_end =
      let e = instance_end_is (more_turns c) (up p.hash 20) in
      let q = room.program_room in let h = room.hash_room in
      omega (arith, e, q, h)

  frame_is : frame_at start ≡ p.frame + 6
  frame_is =
      let r = room.turn_room in let q = room.program_room in let o = room.output_room in let u = room.range_room in let h = room.hash_room in
      omega (arith, r, q, o, u, h)

  -- the first five cells of the task's segment 1
  frame_cell : (i : ℕ) → i < 5 → m (p.frame + (38 + 15 * (more_turns c + 1)) + i) ≡ Some (sum_of (base_of bases (slice_index (frame_segments builtin_mask) i)) 0)
  frame_cell i lt = cell_has m bases 1 i (place (slice_index (frame_segments builtin_mask) i) 0) t.checked.pie.cells has.execution (t.accepted.frame i lt)

  pointers_stand : InOrderFrom m (call_at start (turn_values_at t.checked p)) (prime - 3) (up p.output 9 ∷ p.range ∷ instance_end (more_turns c) (up p.hash 20) ∷ frame_at start ∷ 106 ∷ [])
  unfolding InOrderFrom
  pointers_stand =
      let e = call_is in
      let i = instances_end in
      let f = frame_is in
      let r = room.turn_room in let q = room.program_room in let o = room.output_room in let u = room.range_room in let h = room.hash_room in (
        ap m (omega (arith, e, r, q, o, u, h)) ∙ frame_cell 0 (lit< tt) ∙ ap Some (omega (arith, q, o, u, h)),
        (
          ap m (omega (arith, e, r, q, o, u, h)) ∙ frame_cell 1 (lit< tt) ∙ ap Some (omega (arith, q, o, u, h)),
          (
            ap m (omega (arith, e, r, q, o, u, h)) ∙ frame_cell 2 (lit< tt) ∙ ap Some (omega (arith, i, q, o, u, h)),
            (
              ap m (omega (arith, e, r, q, o, u, h)) ∙ frame_cell 3 (lit< tt) ∙ ap Some (omega (arith, f, r, q, o, u, h)),
              (ap m (omega (arith, e, r, q, o, u, h)) ∙ frame_cell 4 (lit< tt), tt),
            ),
          ),
        ),
      )

  own_stands : InOrderFrom m (frame_at start) (prime - 6) (own_list boot_frame (suc left) (turn_values_at t.checked p) (gap_of t.checked p) (output_size t.checked) (stops_at (next_place t.checked p)))
  own_stands =
      let f = frame_is in
      let l = length_own boot_frame (suc left) (turn_values_at t.checked p) (gap_of t.checked p) (output_size t.checked) (stops_at (next_place t.checked p)) in
      let r = room.turn_room in let q = room.program_room in let o = room.output_room in let u = room.range_room in let h = room.hash_room in
      in_order m _ (frame_at start) (prime - 6) p.frame (omega (arith, l, r, q, o, u, h)) (omega (arith, f, r, q, o, u, h)) has.own

  holds : HoldsTurn m start boot_frame (suc left) (turn_values_at t.checked p) (gap_of t.checked p) (output_size t.checked) (stops_at (next_place t.checked p))
  holds =
      let q = room.program_room in let o = room.output_room in let u = room.range_room in let h = room.hash_room in
      let some = code_some in
      let few = code_few in
      let l = length_hash (turn_values_at t.checked p) in
      record {
        low_is_bit = is_bit (zeros_for c % 2) (omega arith);
        high_is_bit = is_bit (zeros_for c / 2) (omega (arith, some));
        counts = counts_down (more_turns c) _ (filled_is c some few) (omega (arith, few));
        own = own_stands;
        hashes = in_order m _ p.hash 0 p.hash (omega (arith, l, q, h)) (omega (arith, q, h)) has.instances;
        header = in_order m _ p.output 0 p.output (omega (arith, q, o, u, h)) (omega (arith, q, o, u, h)) has.header;
        zeros = in_order m (0 ∷ 0 ∷ 0 ∷ []) (code_end (turn_values_at t.checked p).task) 0 (p.program + c) (omega (arith, q)) (omega (arith, q)) has.zeros;
        code = code_stands;
        pointers = pointers_stand;
      }

  pub at_call : StandsAtCall start (turn_values_at t.checked p) bases t.checked.pie
  at_call =
      let e = call_is in
      let f = frame_is in
      let r = room.turn_room in let q = room.program_room in let o = room.output_room in let u = room.range_room in let h = room.hash_room in
      record { program = refl; main = refl; execution = omega (arith, e, r, q, o, u, h); frame = sym f; home = refl }

  -- the memory has the whole PIE, relocated
  pub segments_fit : (s : ℕ) → s < length t.checked.pie.sizes → base_of bases s + size t.checked s < prime
  segments_fit s lt =
      let small = size_small s lt in
      let e = one_each t p room in
      let bound = ((fits_at t p room).in_bounds s 0 (omega (arith, lt, e))).1 in
      omega (arith, small, bound)

  segments_there : (s : ℕ) → s < length t.checked.pie.sizes → 0 < size t.checked s → HasEach m (part t.checked p s)
  segments_there zero lt some = has.program
  segments_there (suc zero) lt some = has.execution
  segments_there (suc (suc zero)) lt some = has.output
  segments_there (suc (suc (suc zero))) lt some = has.range
  segments_there (suc (suc (suc (suc zero)))) lt some = has.hash
  segments_there (suc (suc (suc (suc (suc zero))))) lt some = let e = t.accepted.rules.are_sizes.no_return_fp in absurd (omega (arith, e, some))
  segments_there (suc (suc (suc (suc (suc (suc zero)))))) lt some = let e = t.accepted.rules.are_sizes.no_return_pc in absurd (omega (arith, e, some))
  segments_there (suc (suc (suc (suc (suc (suc (suc i))))))) lt some =
      let n = length-drop 7 t.checked.pie.sizes in
      let e : 7 + i ≡ suc (suc (suc (suc (suc (suc (suc i)))))) = omega arith in
      subst (λ (x : ℕ). HasEach m (part t.checked p x)) e (has_others m bases t.checked.pie.cells 7 (drop 7 t.checked.pie.sizes) has.others i (omega (arith, lt, n)))

  pub relocated_there : HasRelocated bases (memory_of t.checked.pie.cells) m
  relocated_there = has_relocated m bases t.checked.pie.sizes t.checked.pie.cells t.accepted.rules.are_cells segments_fit segments_there

  module _ (passes : TaskPasses) (idle : IsPresent m (down boot_frame 1)) where
    leaves : TaskLeaves m bases t.checked.pie t.checked.states (final_ap_of t.checked p)
    leaves = subst (λ (v : Datum). TaskLeaves m bases t.checked.pie t.checked.states (relocated bases v))
        (sym (last_is (memory_of t.checked.pie.cells) (start_of t.checked.pie) t.accepted.isolated.last t.checked.states t.accepted.isolated.runs))
        (passes m bases t.checked (fits_at t p room) t.accepted relocated_there)

    gap_leads : sum_of (final_ap_of t.checked p) (gap_of t.checked p) ≡ p.frame + turn_size t.checked
    gap_leads =
        let felt = leaves.is_felt in
        let r = room.turn_room in let q = room.program_room in let o = room.output_room in let u = room.range_room in let h = room.hash_room in
        omega (arith, felt, r, q, o, u, h)

    pub next_is : next_turn (task_values_at t.checked p) ≡ (next_place t.checked p).frame + 4
    next_is =
        let g = gap_leads in
        let r = room.turn_room in let q = room.program_room in let o = room.output_room in let u = room.range_room in let h = room.hash_room in
        omega (arith, g, r, q, o, u, h)

    pub one_less : down (suc left) 1 ≡ left
    one_less = omega (arith, few)

    at_home : InOrderFrom m (final_ap_of t.checked p) (prime - 3) ((next_place t.checked p).output ∷ (next_place t.checked p).range ∷ (next_place t.checked p).hash ∷ [])
    unfolding InOrderFrom
    at_home =
        let l = leaves in
        let q = room.program_room in let o = room.output_room in let u = room.range_room in let h = room.hash_room in
        (l.output_stop ∙ ap Some (omega (arith, q, o, u, h)), (l.range_stop ∙ ap Some (omega (arith, q, u, h)), (l.hash_stop ∙ ap Some (omega (arith, q, h)), tt)))

    next_stands : InOrderFrom m (sum_of (final_ap_of t.checked p) (gap_of t.checked p)) 0 (down (suc left) 1 ∷ (next_place t.checked p).output ∷ (next_place t.checked p).range ∷ (next_place t.checked p).hash ∷ [])
    next_stands =
        let g = gap_leads in
        let r = room.turn_room in let q = room.program_room in let o = room.output_room in let u = room.range_room in let h = room.hash_room in
        subst (λ (x : ℕ). InOrderFrom m (sum_of (final_ap_of t.checked p) (gap_of t.checked p)) 0 (x ∷ (next_place t.checked p).output ∷ (next_place t.checked p).range ∷ (next_place t.checked p).hash ∷ [])) (sym one_less)
        (in_order m (left ∷ (next_place t.checked p).output ∷ (next_place t.checked p).range ∷ (next_place t.checked p).hash ∷ []) (sum_of (final_ap_of t.checked p) (gap_of t.checked p)) 0 (p.frame + turn_size t.checked)
        (omega (arith, r, q, o, u, h)) (omega (arith, g, r, q, o, u, h)) has.next)

    turns_on : BranchCells m (next_turn (task_values_at t.checked p)) boot_frame (down (suc left) 1)
    unfolding InOrderFrom
    turns_on =
        let n = next_is in
        let g = gap_leads in
        let r = room.turn_room in let q = room.program_room in let o = room.output_room in let u = room.range_room in let h = room.hash_room in
        record { tasks_left = ap m (omega (arith, n, g, r, q, o, u, h)) ∙ next_stands.0; idle = idle }

    pub task_runs : TaskRuns m start boot_frame (suc left) (task_values_at t.checked p)
    task_runs =
        let q = room.program_room in let o = room.output_room in let u = room.range_room in let h = room.hash_room in
        let run = called_task_runs m start (turn_values_at t.checked p) bases t.checked.pie t.checked.states (final_ap_of t.checked p) at_call leaves in
        record {
          cells = own.turn_cells m start boot_frame (suc left) (turn_values_at t.checked p) (gap_of t.checked p) (output_size t.checked) (stops_at (next_place t.checked p)) holds;
          runs = record { count = refl; runs = run.runs; ends = run.ends };
          return_cells = own.turn_homes m start boot_frame (suc left) (turn_values_at t.checked p) (gap_of t.checked p) (output_size t.checked) (stops_at (next_place t.checked p)) holds (final_ap_of t.checked p) (omega (arith, q, o, u, h)) at_home next_stands;
          turns = turns_on;
        }
