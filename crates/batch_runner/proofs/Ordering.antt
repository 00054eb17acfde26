-- The rows of a batch's certificate are in order.
use Rattle.std.proofs.Common.{◌≡◌, ◌≢◌, ℕ, zero, suc, ◌+◌, ◌-◌, ◌*◌, ◌%◌, ◌^◌, ◌<◌, ◌≤◌, ◌==◌, Bool, false, if◌then◌else◌, List, [], ◌∷◌, ◌++◌, map, drop, length, slice_index, Option, Some, inl, inr, refl, sym, ap, subst, ◌∙◌, arith, length-drop}
use Rattle.std.proofs.lemmas.List.{length-map}
use Rattle.std.proofs.lemmas.List.Elements.{All-contains}
use Rattle.std.proofs.lemmas.Bool.Decides.{nat_tests}
use Rattle.goldi_field.specs.Numbers.{prime}
use Rattle.cairo_model.specs.Machine.Values.{Datum, number, place}
use Rattle.cairo_model.specs.Machine.Steps.{field_arithmetic, Registers, value_arithmetic, RunsTo, RunFrom}
use Rattle.cairo_model.specs.Pie.Records.{IsCellOf, memory_of}
use Rattle.cairo_model.specs.Pie.Layouts.{base_of, relocated, relocated_state}
use Rattle.cairo_model.specs.Machine.FieldMemories.{FieldCell, cell_at}
use Rattle.cairo_model.specs.Pie.Acceptance.{start_of}
use Rattle.cairo_model.specs.Certificate.Records.{CertRecord, MarkRecord}
use Rattle.cairo_model.proofs.Inversion.{moves, value_exact}
use Rattle.cairo_model.proofs.PieMemories.{memory_gives}
use Rattle.boot_program.specs.Words.{boot_code, HasBoot, boot_end}
use Rattle.boot_program.specs.Rows.{SymbolicState, symbolic_state, rows_from}
use Rattle.cairo_model.specs.Machine.Addresses.{up, down}
use Rattle.boot_program.specs.Cells.{IsPresent, frame_at, state}
use Rattle.cairo_model.specs.Machine.Runs.{Passes}
use Rattle.boot_program.specs.HashLoop.{hash_loop_end}
use Rattle.boot_program.specs.Turns.{hash_loop_start, task_start, turn_length, turn_rows_of}
use Rattle.boot_program.specs.Tasks.{TaskValues, TaskRuns, next_turn, task_rows, tasks_rows, tasks_end, task_length, tasks_length}
use Rattle.boot_program.specs.Working.Walks.{EachRow, Outside}
use Rattle.boot_program.proofs.Walks.{each_passed, each_mapped, OutsideAt, turn_walk, entry_outside, return_outside, turning_outside, exit_outside}
use Rattle.boot_program.proofs.TurnLaws.{turn_goes}
use Rattle.boot_program.proofs.BatchLaws.{task_goes, entry_passes, tasks_go, return_passes}
use Rattle.cairo_model.proofs.RunParts.{ends_at}
use Rattle.batch_plan.specs.Parts.{BatchParts}
use Rattle.batch_plan.specs.Plans.{bases_on}
use Rattle.batch_runner.specs.Certificates.{cert_of, marks_from}
use Rattle.batch_runner.specs.Working.Tasks.{Task, checked_of}
use Rattle.batch_runner.specs.Layout.{bases_at, boot_frame, first_place, hash_from, hash_size, more_turns, next_place, output_from, output_size, range_from, size, total}
use Rattle.batch_runner.specs.Memory.{turn_values_at}
use Rattle.batch_runner.specs.Rows.{batch_rows, memory_of_batch, values_of_all, task_values_at}
use Rattle.batch_runner.specs.Working.Memories.{HasAllParts}
use Rattle.batch_runner.specs.Working.Ordering.{MarksLie, CallsAt, RowsInOrder, Inside, IsCallOf, IsMarkRow, MarksRise, RowInOrder}
use Rattle.batch_runner.specs.Working.Rooms.{HasRoom, HasRooms, WithinLimits}
use Rattle.batch_runner.specs.Working.TaskRuns.{TaskPasses}
use Rattle.batch_runner.proofs.PartsRise.{bases_follow}
use Rattle.batch_runner.proofs.Fitting.{bases_above}
use Rattle.batch_runner.proofs.Limits.{free_few}
use Rattle.batch_runner.proofs.Standing.{start_is}
use Rattle.batch_runner.proofs.TaskPlaced as placed
use Rattle.batch_runner.proofs.WholeBatch as whole

-- ---- a task's rows stand above the bootloader

above_boot : (t : Task) (p : BatchParts) → HasRoom t.checked p → (s : ℕ) → s < length t.checked.pie.sizes → 0 < size t.checked s → 119 ≤ base_of (bases_at t.checked p) s
above_boot t p room zero lt some = let b = room.above_boot in let r = room.turn_room in let q = room.output_room in let u = room.range_room in let w = room.hash_room in omega (arith, b, r, q, u, w)
above_boot t p room (suc zero) lt some = let b = room.above_boot in omega (arith, b)
above_boot t p room (suc (suc zero)) lt some = let b = room.above_boot in let r = room.turn_room in omega (arith, b, r)
above_boot t p room (suc (suc (suc zero))) lt some = let b = room.above_boot in let r = room.turn_room in let q = room.output_room in omega (arith, b, r, q)
above_boot t p room (suc (suc (suc (suc zero)))) lt some = let b = room.above_boot in let r = room.turn_room in let q = room.output_room in let u = room.range_room in omega (arith, b, r, q, u)
above_boot t p room (suc (suc (suc (suc (suc zero))))) lt some = let b = room.above_boot in omega (arith, b)
above_boot t p room (suc (suc (suc (suc (suc (suc zero)))))) lt some = let e = t.accepted.rules.are_sizes.no_return_pc in absurd (omega (arith, e, some))
above_boot t p room (suc (suc (suc (suc (suc (suc (suc i))))))) lt some =
    let n = length-drop 7 t.checked.pie.sizes in
    let at : base_of (bases_at t.checked p) (7 + i) ≡ slice_index (bases_on (p.program + size t.checked 0 + 3) (drop 7 t.checked.pie.sizes)) i = bases_follow t p i in
    let low = bases_above (p.program + size t.checked 0 + 3) (drop 7 t.checked.pie.sizes) i (omega (arith, lt, n)) in
    let b = room.above_boot in let r = room.turn_room in let q = room.output_room in let u = room.range_room in let w = room.hash_room in
    let e : 7 + i ≡ suc (suc (suc (suc (suc (suc (suc i)))))) = omega arith in
    subst (λ (x : ℕ). 119 ≤ base_of (bases_at t.checked p) x) e (omega (arith, at, low, b, r, q, u, w))

module _ (m : ℕ → Option ℕ) (left : ℕ) (t : Task) (p : BatchParts) (room : HasRoom t.checked p) (fit : (s : ℕ) → s < length t.checked.pie.sizes → base_of (bases_at t.checked p) s + size t.checked s < prime) where
  pc_above : (a v : Datum) → memory_of t.checked.pie.cells a ≡ Some v → boot_end < relocated (bases_at t.checked p) a
  pc_above (number n) v is = absurd (cc)
  pc_above (place s o) v is =
      let cells = t.checked.pie.cells in
      let sizes = t.checked.pie.sizes in
      let found = memory_gives cells (place s o) v is in
      let cell = All-contains (IsCellOf sizes) cells found.cell t.accepted.rules.are_cells found.stands in
      let same_s : found.cell.segment ≡ s = segment_is found.cell.segment found.cell.offset s o found.address in
      let same_o : found.cell.offset ≡ o = offset_is found.cell.segment found.cell.offset s o found.address in
      let inside : s < length sizes = subst (λ (x : ℕ). x < length sizes) same_s cell.in_segments in
      let below : o < size t.checked s = subst (λ (x : ℕ). o < size t.checked x) same_s (subst (λ (x : ℕ). x < size t.checked found.cell.segment) same_o cell.in_size) in
      let base = above_boot t p room s inside (omega (arith, below)) in
      let near = fit s inside in
      omega (arith, base, near, below)
    where
      segment_is : (s o q r : ℕ) → place s o ≡ place q r → s ≡ q
      segment_is s o q r e = cc

      offset_is : (s o q r : ℕ) → place s o ≡ place q r → o ≡ r
      offset_is s o q r e = cc

  states_above : (k : ℕ) (s : Registers Datum) (ss : List (Registers Datum)) → RunFrom value_arithmetic (memory_of t.checked.pie.cells) s ss
      → EachRow (λ j x. boot_end < x.pc) k (relocated_state (bases_at t.checked p) s) (map (relocated_state (bases_at t.checked p)) ss)
  unfolding EachRow
  states_above k s [] run = tt
  states_above k s (u ∷ us) run =
      let by = moves value_arithmetic value_exact (memory_of t.checked.pie.cells) s u run.0 in
      (pc_above s.pc by.cell by.is_fetched, states_above (suc k) u us run.1)

  run_above : (k : ℕ) (s e : Registers Datum) (ss : List (Registers Datum)) → RunsTo value_arithmetic (memory_of t.checked.pie.cells) s ss e
      → EachRow (λ j x. boot_end < x.pc) k (relocated_state (bases_at t.checked p) s) (drop 1 (map (relocated_state (bases_at t.checked p)) ss))
  run_above k s e [] none = absurd none
  run_above k s e (u ∷ us) run = subst (λ (x : Registers Datum). EachRow (λ j y. boot_end < y.pc) k (relocated_state (bases_at t.checked p) x) (map (relocated_state (bases_at t.checked p)) us)) run.0
      (states_above k u us run.1.0)

-- ---- rows and marks

module _ (cells : List FieldCell) (ms : List MarkRecord) (ts : List Task) where
  outside_row : (k : ℕ) (s : Registers ℕ) → Outside s → (Inside ms ts k → ⊥) → (IsMarkRow ms (suc k) → ⊥) → RowInOrder cells ms ts k s
  outside_row k s out not_inside not_mark = record {
    inside = λ i. absurd (not_inside i);
    outside = λ n. (out.from, out.below);
    site = λ n is. absurd (out.no_site is);
    mark = λ i. absurd (not_mark i);
  }

  inside_row : (k : ℕ) (s : Registers ℕ) → boot_end < s.pc → Inside ms ts k → (IsMarkRow ms (suc k) → ⊥) → RowInOrder cells ms ts k s
  inside_row k s high is_inside not_mark = record {
    inside = λ i. high;
    outside = λ n. absurd (n is_inside);
    site = λ n is. absurd (n is_inside);
    mark = λ i. absurd (not_mark i);
  }

  site_row : (k : ℕ) (s : Registers ℕ) → s.pc ≡ 105 → (Inside ms ts k → ⊥) → CallsAt cells ms ts (suc k) s → RowInOrder cells ms ts k s
  site_row k s at not_inside calls = record {
    inside = λ i. absurd (not_inside i);
    outside = λ n. (omega (arith, at), omega (arith, at));
    site = λ n is. calls;
    mark = λ i. (not_inside, at);
  }

marks_above : (before : ℕ) (p : BatchParts) (ts : List Task) (k : ℕ) → IsMarkRow (marks_from before p (checked_of ts)) k → before + 54 ≤ k
unfolding IsMarkRow marks_from
marks_above before p [] k none = absurd none
marks_above before p (t ∷ ts) k (inl is) = omega (arith, is)
marks_above before p (t ∷ ts) k (inr later) = let e = marks_above (before + task_length (task_values_at t.checked p)) (next_place t.checked p) ts k later in omega (arith, e)

insides_above : (before : ℕ) (p : BatchParts) (ts : List Task) (k : ℕ) → Inside (marks_from before p (checked_of ts)) ts k → before + 54 ≤ k
unfolding Inside marks_from
insides_above before p [] k none = absurd none
insides_above before p (t ∷ ts) k (inl is) = let e = is.0 in omega (arith, e)
insides_above before p (t ∷ ts) k (inr later) = let e = insides_above (before + task_length (task_values_at t.checked p)) (next_place t.checked p) ts k later in omega (arith, e)

pub steps_are : (t : Task) (p : BatchParts) → length (task_values_at t.checked p).states ≡ t.checked.pie.steps
steps_are t p =
    let a = length-drop 1 (map (relocated_state (bases_at t.checked p)) t.checked.states) in
    let b = length-map t.checked.states (relocated_state (bases_at t.checked p)) in
    let c = t.accepted.isolated.count in
    omega (arith, a, b, c)

-- inside and marks end with the tasks
insides_below : (before : ℕ) (p : BatchParts) (t : Task) (ts : List Task) (k : ℕ) → Inside (marks_from before p (checked_of (t ∷ ts))) (t ∷ ts) k → k < before + tasks_length (task_values_at t.checked p) (values_of_all (next_place t.checked p) (checked_of ts))
unfolding Inside marks_from tasks_length values_of_all
insides_below before p t [] k (inl is) = let e = is.1 in let n = steps_are t p in omega (arith, e, n)
insides_below before p t [] k (inr none) = absurd none
insides_below before p t (next ∷ ts) k (inl is) = let e = is.1 in let n = steps_are t p in omega (arith, e, n)
insides_below before p t (next ∷ ts) k (inr later) = let e = insides_below (before + task_length (task_values_at t.checked p)) (next_place t.checked p) next ts k later in omega (arith, e)

marks_below : (before : ℕ) (p : BatchParts) (t : Task) (ts : List Task) (k : ℕ) → IsMarkRow (marks_from before p (checked_of (t ∷ ts))) k → k < before + tasks_length (task_values_at t.checked p) (values_of_all (next_place t.checked p) (checked_of ts))
unfolding IsMarkRow marks_from tasks_length values_of_all
marks_below before p t [] k (inl is) = omega (arith, is)
marks_below before p t [] k (inr none) = absurd none
marks_below before p t (next ∷ ts) k (inl is) = omega (arith, is)
marks_below before p t (next ∷ ts) k (inr later) = let e = marks_below (before + task_length (task_values_at t.checked p)) (next_place t.checked p) next ts k later in omega (arith, e)

-- ---- all rows of the tasks

module _ (cells : List FieldCell) (m : ℕ → Option ℕ) (same : cell_at cells ≡ m) (boot : HasBoot m) (passes : TaskPasses) (idle : IsPresent m (down boot_frame 1)) where
  one_row : (s : SymbolicState) → length (rows_from boot_code 1 m s) ≡ 1
  unfolding rows_from
  one_row s = refl

  module _ (t : Task) (ts : List Task) (p : BatchParts) (before : ℕ) (rooms : HasRooms p (checked_of (t ∷ ts))) (has : HasAllParts m p (t ∷ ts)) (few : length (checked_of ts) < 2 ^ 32) where
    abbrev a : ℕ
    a = p.frame + 4

    abbrev names : TaskValues
    names = task_values_at t.checked p

    abbrev more : ℕ
    more = more_turns (size t.checked 0)

    abbrev steps : ℕ
    steps = t.checked.pie.steps

    abbrev own : MarkRecord
    own = record { row = before + turn_length more; bases = bases_at t.checked p }

    abbrev after : ℕ
    after = before + task_length names

    abbrev later : List MarkRecord
    later = marks_from after (next_place t.checked p) (checked_of ts)

    abbrev InPlace : ℕ → Registers ℕ → Type 0
    InPlace = RowInOrder cells (own ∷ later) (t ∷ ts)

    room : HasRoom t.checked p
    room = whole.room_here t.checked (checked_of ts) p rooms

    runs : TaskRuns m a boot_frame (suc (length (checked_of ts))) names
    runs = placed.task_runs m (length (checked_of ts)) t p room (whole.task_there m t ts p has) few passes idle

    count : length names.states ≡ steps
    count = steps_are t p

    not_inside : (k : ℕ) → k < after → ((before + turn_length more ≤ k) → (k < before + turn_length more + steps) → ⊥) → Inside (own ∷ later) (t ∷ ts) k → ⊥
    unfolding Inside
    not_inside k lt never (inl is) = never is.0 is.1
    not_inside k lt never (inr in_later) = let e = insides_above after (next_place t.checked p) ts k in_later in absurd (omega (arith, e, lt))

    not_mark : (k : ℕ) → k < after → (before + turn_length more ≢ suc k) → IsMarkRow (own ∷ later) (suc k) → ⊥
    unfolding IsMarkRow
    not_mark k lt never (inl is) = never is
    not_mark k lt never (inr in_later) = let e = marks_above after (next_place t.checked p) ts (suc k) in_later in absurd (omega (arith, e, lt))

    early : (k : ℕ) (s : Registers ℕ) → k < before + (53 + 29 * (more + 1)) → Outside s → InPlace k s
    early k s lt out = outside_row cells (own ∷ later) (t ∷ ts) k s out
        (not_inside k (omega (arith, lt)) (λ low high. omega (arith, low, lt))) (not_mark k (omega (arith, lt)) (λ e. omega (arith, e, lt)))

    late : (k : ℕ) (s : Registers ℕ) → before + turn_length more + steps ≤ k → k < after → Outside s → InPlace k s
    late k s low lt out = outside_row cells (own ∷ later) (t ∷ ts) k s out
        (not_inside k lt (λ from below. omega (arith, low, below))) (not_mark k lt (λ e. omega (arith, e, low)))

    middle : (k : ℕ) (s : Registers ℕ) → before + turn_length more ≤ k → k < before + turn_length more + steps → boot_end < s.pc → InPlace k s
    unfolding Inside
    middle k s low lt high = let n = count in inside_row cells (own ∷ later) (t ∷ ts) k s high (inl (low, lt)) (not_mark k (omega (arith, lt, n)) (λ e. omega (arith, e, low)))

    call_cells : IsCallOf cells own t (state 105 (up (hash_loop_end more (hash_loop_start a)) 14) (frame_at a))
    call_cells =
        let c = runs.cells.header_cells in
        let e = hash_loop_end more (hash_loop_start a) in
        record {
          program = ap (λ (f : ℕ → Option ℕ). f (down (up e 14) 6)) same ∙ ap m (omega arith) ∙ c.program_copied;
          main = ap (λ (f : ℕ → Option ℕ). f (down (up e 14) 5)) same ∙ ap m (omega arith) ∙ c.main_copied;
          length_is = ap (λ (f : ℕ → Option ℕ). f (down (up e 14) 4)) same ∙ ap m (omega arith) ∙ c.length_copied;
        }

    at_site : InPlace (before + (53 + 29 * (more + 1))) (state 105 (up (hash_loop_end more (hash_loop_start a)) 14) (frame_at a))
    unfolding CallsAt
    at_site = site_row cells (own ∷ later) (t ∷ ts) (before + (53 + 29 * (more + 1))) (state 105 (up (hash_loop_end more (hash_loop_start a)) 14) (frame_at a)) refl
        (not_inside (before + (53 + 29 * (more + 1))) (omega arith) (λ low high. omega (arith, low))) (inl (omega arith, call_cells))

    -- one task's rows
    pub task_in_order : EachRow InPlace before (state 6 a boot_frame) (task_rows m a boot_frame names)
    task_in_order =
        let f = frame_at a in
        let n = count in
        let turn = turn_goes m boot a boot_frame (turn_values_at t.checked p) runs.cells in
        let start = start_is a (turn_values_at t.checked p) (bases_at t.checked p) t (placed.at_call m (length (checked_of ts)) t p room (whole.task_there m t ts p has) few) in
        let k1 = before + turn_length more in
        let isolated : EachRow (λ j x. boot_end < x.pc) k1 (task_start a (turn_values_at t.checked p)) names.states =
        subst (λ (s : Registers ℕ). EachRow (λ j x. boot_end < x.pc) k1 s names.states) start
        (run_above m (length (checked_of ts)) t p room (placed.segments_fit m (length (checked_of ts)) t p room (whole.task_there m t ts p has) few) k1 (start_of t.checked.pie) t.accepted.isolated.last t.checked.states t.accepted.isolated.runs) in
        let homing = return_passes m boot boot_frame a (suc (length (checked_of ts))) names runs in
        let k2 = k1 + length names.states in
        let c = homing.count in
        let rows11 = rows_from boot_code 11 m (symbolic_state 106 names.final_ap f) in
        let rows1 = rows_from boot_code 1 m (symbolic_state 8 (next_turn names) boot_frame) in
        each_passed InPlace m before (turn_length more) (state 6 a boot_frame) (task_start a (turn_values_at t.checked p)) (turn_rows_of m a boot_frame more) (names.states ++ (rows11 ++ rows1)) turn
        (turn_walk m boot a boot_frame (turn_values_at t.checked p) runs.cells InPlace before (λ j x low high out. early j x high out) at_site)
        (each_passed InPlace m k1 (length names.states) (task_start a (turn_values_at t.checked p)) (state 106 names.final_ap f) names.states (rows11 ++ rows1) runs.runs
        (each_mapped (λ j x. boot_end < x.pc) InPlace k1 (task_start a (turn_values_at t.checked p)) names.states (λ j x low high out. middle j x low (omega (arith, high, n)) out) isolated)
        (each_passed InPlace m k2 11 (state 106 names.final_ap f) (state 8 (next_turn names) boot_frame) rows11 rows1 homing
        (each_mapped OutsideAt InPlace k2 (state 106 names.final_ap f) rows11 (λ j x low high out. late j x (omega (arith, low, n)) (omega (arith, high, c)) out) (return_outside m k2 names.final_ap f))
        (each_mapped OutsideAt InPlace (k2 + 11) (state 8 (next_turn names) boot_frame) rows1 (λ j x low high out. late j x (omega (arith, low, n)) (last_row j high) out) (turning_outside m (k2 + 11) (next_turn names) boot_frame))))
      where
        last_row : (j : ℕ) → j < before + turn_length more + length names.states + 11 + length (rows_from boot_code 1 m (symbolic_state 8 (next_turn names) boot_frame)) → j < after
        last_row j high = let e = one_row (symbolic_state 8 (next_turn names) boot_frame) in omega (arith, high, e)

    -- rows after the task stand as its later marks say
    to_later : (j : ℕ) → after ≤ j → Inside (own ∷ later) (t ∷ ts) j → Inside later ts j
    unfolding Inside
    to_later j low (inl is) = let e = is.1 in let n = count in absurd (omega (arith, e, low, n))
    to_later j low (inr is) = is

    from_later : (j : ℕ) → Inside later ts j → Inside (own ∷ later) (t ∷ ts) j
    unfolding Inside
    from_later j is = inr is

    call_from_later : (j : ℕ) (x : Registers ℕ) → CallsAt cells later ts j x → CallsAt cells (own ∷ later) (t ∷ ts) j x
    unfolding CallsAt
    call_from_later j x is = inr is

    mark_to_later : (j : ℕ) → after ≤ j → IsMarkRow (own ∷ later) (suc j) → IsMarkRow later (suc j)
    unfolding IsMarkRow
    mark_to_later j low (inl is) = absurd (omega (arith, is, low))
    mark_to_later j low (inr is) = is

    wider : (j : ℕ) (x : Registers ℕ) → after ≤ j → RowInOrder cells later ts j x → InPlace j x
    wider j x low h = record {
      inside = λ i. h.inside (to_later j low i);
      outside = λ n. h.outside (λ i. n (from_later j i));
      site = λ n is. call_from_later (suc j) x (h.site (λ i. n (from_later j i)) is);
      mark = λ i. let k = h.mark (mark_to_later j low i) in ((λ o. k.0 (to_later j low o)), k.1);
    }

    pub after_in_order : (s : Registers ℕ) (rows : List (Registers ℕ)) → EachRow (RowInOrder cells later ts) after s rows → EachRow InPlace after s rows
    after_in_order s rows each = each_mapped (RowInOrder cells later ts) InPlace after s rows (λ j x low high h. wider j x low h) each

    -- where the next task's turn begins
    pub goes_on : length (checked_of ts) ≢ 0 → Passes field_arithmetic m (task_length names) (state 6 a boot_frame) (task_rows m a boot_frame names) (state 6 ((next_place t.checked p).frame + 4) boot_frame)
    goes_on some =
        let task = whole.task_there m t ts p has in
        let less = placed.one_less m (length (checked_of ts)) t p room task few passes idle in
        let next = placed.next_is m (length (checked_of ts)) t p room task few passes idle in
        let on : (down (suc (length (checked_of ts))) 1 == 0) ≡ false = not_zero (down (suc (length (checked_of ts))) 1) (λ e. some (sym less ∙ e)) in
        ends_at field_arithmetic m (task_length names) (task_goes m boot boot_frame a (suc (length (checked_of ts))) names runs)
        (ap (λ (b : Bool). state (if b then 10 else 6) (next_turn names) boot_frame) on ∙ ap (λ x. state 6 x boot_frame) next)
      where
        not_zero : (x : ℕ) → x ≢ 0 → (x == 0) ≡ false
        not_zero x some = grind (arith, nat_tests, some)

  -- all tasks, by induction
  pub tasks_in_order : (t : Task) (ts : List Task) (p : BatchParts) (before : ℕ) → HasRooms p (checked_of (t ∷ ts)) → HasAllParts m p (t ∷ ts) → length (checked_of ts) < 2 ^ 32
      → EachRow (RowInOrder cells (marks_from before p (checked_of (t ∷ ts))) (t ∷ ts)) before (state 6 (p.frame + 4) boot_frame) (tasks_rows m (p.frame + 4) boot_frame (task_values_at t.checked p) (values_of_all (next_place t.checked p) (checked_of ts)))
  unfolding marks_from tasks_rows values_of_all
  tasks_in_order t [] p before rooms has few = task_in_order t [] p before rooms has few
  tasks_in_order t (next ∷ ts) p before rooms has few =
      let q = next_place t.checked p in
      let here = placed.next_is m (length (checked_of (next ∷ ts))) t p (whole.room_here t.checked (checked_of (next ∷ ts)) p rooms) (whole.task_there m t (next ∷ ts) p has) few passes idle in
      let after = before + task_length (task_values_at t.checked p) in
      let rest = tasks_in_order next ts q after (whole.room_next t.checked (checked_of (next ∷ ts)) p rooms) (whole.parts_next m t (next ∷ ts) p has) (omega (arith, few)) in
      let own : MarkRecord = record { row = before + turn_length (more_turns (size t.checked 0)); bases = bases_at t.checked p } in
      each_passed (RowInOrder cells (own ∷ marks_from after q (checked_of (next ∷ ts))) (t ∷ next ∷ ts)) m before (task_length (task_values_at t.checked p)) (state 6 (p.frame + 4) boot_frame) (state 6 (q.frame + 4) boot_frame)
      (task_rows m (p.frame + 4) boot_frame (task_values_at t.checked p)) (tasks_rows m (next_turn (task_values_at t.checked p)) boot_frame (task_values_at next.checked q) (values_of_all (next_place next.checked q) (checked_of ts)))
      (goes_on t (next ∷ ts) p before rooms has few (λ e. absurd (omega (arith, e))))
      (task_in_order t (next ∷ ts) p before rooms has few)
      (after_in_order t (next ∷ ts) p before rooms has few (state 6 (q.frame + 4) boot_frame) (tasks_rows m (next_turn (task_values_at t.checked p)) boot_frame (task_values_at next.checked q) (values_of_all (next_place next.checked q) (checked_of ts)))
      (subst (λ (x : ℕ). EachRow (RowInOrder cells (marks_from after q (checked_of (next ∷ ts))) (next ∷ ts)) after (state 6 (q.frame + 4) boot_frame) (tasks_rows m x boot_frame (task_values_at next.checked q) (values_of_all (next_place next.checked q) (checked_of ts)))) (sym here) rest))

-- ---- the whole certificate

marks_rise : (before lo : ℕ) (p : BatchParts) (ts : List Task) → lo ≤ before + 54 → MarksRise lo (marks_from before p (checked_of ts)) ts
unfolding MarksRise marks_from
marks_rise before lo p [] le = tt
marks_rise before lo p (t ∷ ts) le = let n = steps_are t p in
    (omega (arith, le), marks_rise (before + task_length (task_values_at t.checked p)) (before + turn_length (more_turns (size t.checked 0)) + t.checked.pie.steps) (next_place t.checked p) ts (omega (arith, n)))

spans_hold : (cert : CertRecord) (before : ℕ) (p : BatchParts) (ts : List Task) → cert.output.start ≤ p.output → p.output + total output_size (checked_of ts) ≤ cert.output.stop
    → cert.range.start ≤ p.range → p.range + total (λ t. size t 3) (checked_of ts) ≤ cert.range.stop → cert.hash.start ≤ p.hash → p.hash + total hash_size (checked_of ts) ≤ cert.hash.stop
    → (p.hash - cert.hash.start) % 20 ≡ 0 → MarksLie cert (marks_from before p (checked_of ts)) ts
unfolding MarksLie marks_from total
spans_hold cert before p [] a b c d e f g = tt
spans_hold cert before p (t ∷ ts) a b c d e f g =
    let w = t.accepted.hash.are_instances.whole in
    let n = t.accepted.hash.holds.count in (
      record { output_from = omega (arith, a); output_to = omega (arith, b); range_from = c; range_to = omega (arith, d); hash_from = omega (arith, e); hash_to = omega (arith, f); whole = omega (arith, e, g) },
      spans_hold cert (before + task_length (task_values_at t.checked p)) (next_place t.checked p) ts (omega (arith, a)) (omega (arith, b)) (omega (arith, c)) (omega (arith, d)) (omega (arith, e)) (omega (arith, f))
          (omega (arith, e, g, w, n)),
    )

pub rows_in_order : TaskPasses → (t : Task) (ts : List Task) → WithinLimits (t ∷ ts) → RowsInOrder (cert_of t.checked (checked_of ts)) (t ∷ ts)
rows_in_order passes t ts limits =
    let all = t ∷ ts in
    let m = memory_of_batch (checked_of all) in
    let p = first_place (checked_of all) in
    let fits = free_few all limits in
    let boot = whole.boot_there all in
    let rooms = whole.rooms_of (checked_of all) fits in
    let parts = whole.parts_there all in
    let idle = whole.idle_there all fits in
    let n = limits.few_tasks in
    let few : length (checked_of ts) < 2 ^ 32 = omega (arith, n) in
    let cert = cert_of t.checked (checked_of ts) in
    let later = values_of_all (next_place t.checked p) (checked_of ts) in
    let end = tasks_end (task_values_at t.checked p) later in
    let tasks = tasks_rows m 128 boot_frame (task_values_at t.checked p) later in
    let leaving = rows_from boot_code 1 m (symbolic_state 10 end boot_frame) in
    let count = tasks_length (task_values_at t.checked p) later in
    let run = whole.batch_runs passes t ts fits few in
    let size_is = run.count in
    let entry = entry_passes m boot boot_frame boot_frame (length (checked_of all)) (output_from (checked_of all)) (range_from (checked_of all)) (hash_from (checked_of all)) (whole.enters all fits) in
    let ec = entry.count in
    let to_end = tasks_go m boot boot_frame 128 (length (checked_of all)) (task_values_at t.checked p) later (whole.tasks_run m passes idle t ts p rooms parts few) in
    let last = exit_outside m (4 + count) end boot_frame in
    record {
      first = state 1 boot_frame boot_frame;
      rest = batch_rows t.checked (checked_of ts);
      begins = refl;
      rows =
          each_passed (RowInOrder cert.cells cert.tasks all) m 0 4 (state 1 boot_frame boot_frame) (state 6 128 boot_frame) (rows_from boot_code 4 m (symbolic_state 1 boot_frame boot_frame)) (tasks ++ leaving) entry
          (each_mapped OutsideAt (RowInOrder cert.cells cert.tasks all) 0 (state 1 boot_frame boot_frame) (rows_from boot_code 4 m (symbolic_state 1 boot_frame boot_frame))
          (λ j x low high out. outside_row cert.cells cert.tasks all j x out (λ i. before_all j (omega (arith, high, ec)) (less j (insides_above 4 p all j i))) (λ i. before_all j (omega (arith, high, ec)) (sooner j (marks_above 4 p all (suc j) i))))
          (entry_outside m 0 boot_frame boot_frame))
          (each_passed (RowInOrder cert.cells cert.tasks all) m 4 count (state 6 128 boot_frame) (state 10 end boot_frame) tasks leaving to_end
          (tasks_in_order cert.cells m refl boot passes idle t ts p 4 rooms parts few)
          (each_mapped OutsideAt (RowInOrder cert.cells cert.tasks all) (4 + count) (state 10 end boot_frame) leaving
          (λ j x low high out. outside_row cert.cells cert.tasks all j x out (λ i. after_all count j low (insides_below 4 p t ts j i)) (λ i. after_all count j low (earlier (4 + count) j (marks_below 4 p t ts (suc j) i)))) last));
      last_outside = λ i. let e = insides_below 4 p t ts (length (batch_rows t.checked (checked_of ts))) i in omega (arith, e, size_is);
      no_mark_after = λ i. let e = marks_below 4 p t ts (suc (length (batch_rows t.checked (checked_of ts)))) i in omega (arith, e, size_is);
      last_at_end = ap (λ (s : Registers ℕ). s.pc) run.ends;
      rise = marks_rise 4 1 p all (omega arith);
      spans = spans_hold cert 4 p all (omega arith) (omega arith) (omega arith) (omega arith) (omega arith) (omega arith) (nothing_left (hash_from (checked_of all)));
    }
  where
    before_all : (j : ℕ) → j < 4 → 4 + 53 ≤ j → ⊥
    before_all j lt le = omega (arith, lt, le)

    less : (j : ℕ) → 4 + 54 ≤ j → 4 + 53 ≤ j
    less j le = omega (arith, le)

    sooner : (j : ℕ) → 4 + 54 ≤ suc j → 4 + 53 ≤ j
    sooner j le = omega (arith, le)

    after_all : (n j : ℕ) → 4 + n ≤ j → j < 4 + n → ⊥
    after_all n j le lt = omega (arith, le, lt)

    earlier : (n j : ℕ) → suc j < n → j < n
    earlier n j lt = omega (arith, lt)

    nothing_left : (x : ℕ) → (x - x) % 20 ≡ 0
    nothing_left x = omega arith
