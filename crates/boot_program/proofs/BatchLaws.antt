-- The cells of all stretches and the runs of all tasks make one run from the bootloader's entry to its end.
use Rattle.std.proofs.Common.{ℕ, ◌+◌, ◌==◌, Bool, if◌then◌else◌, List, [], ◌∷◌, ◌++◌, Option, ap}
use Rattle.cairo_model.specs.Machine.Addresses.{up, down}
use Rattle.cairo_model.specs.Machine.Runs.{Passes}
use Rattle.cairo_model.proofs.RunParts.{joined, ends_at}
use Rattle.cairo_model.proofs.NumberTests.{is_not}
use Rattle.cairo_model.specs.Machine.Steps.{field_arithmetic}
use Rattle.boot_program.specs.Places.{branch_pc, entry_pc, exit_pc, return_pc, tasks_pc}
use Rattle.boot_program.specs.Words.{boot_code, boot_end, HasBoot}
use Rattle.boot_program.specs.Rows.{symbolic_state, rows_from}
use Rattle.boot_program.specs.Cells.{EntryCells, ExitCells, frame_at, state}
use Rattle.boot_program.specs.Tasks.{TaskValues, TaskRuns, TasksRun, next_turn, task_rows, tasks_rows, tasks_end, task_length, tasks_length}
use Rattle.boot_program.proofs.Entry.{entry_rows, entry_goes, entry_ends}
use Rattle.boot_program.proofs.Return.{return_rows, return_goes, return_ends, branch_rows, branch_goes, branch_ends, exit_rows, exit_goes, exit_ends}
use Rattle.boot_program.proofs.PassingLaws.{passes}
use Rattle.boot_program.proofs.TurnLaws as turns

module _ (m : ℕ → Option ℕ) (boot : HasBoot m) (caller : ℕ) where
  pub return_passes : (a left : ℕ) (t : TaskValues) → TaskRuns m a caller left t → Passes field_arithmetic m 11 (state return_pc t.final_ap (frame_at a)) (rows_from boot_code 11 m (symbolic_state return_pc t.final_ap (frame_at a))) (state branch_pc (next_turn t) caller)
  return_passes a left t by =
      let f = frame_at a in
      ends_at field_arithmetic m 11 (passes boot_code m boot 11 (symbolic_state return_pc t.final_ap f) (return_rows m t.final_ap f) (return_goes m t.final_ap f left t.turn.header t.gap t.distance branch_pc caller t.stops by.return_cells))
      (return_ends m t.final_ap f t.gap branch_pc caller by.return_cells.gap_is by.return_cells.return_kept by.return_cells.caller_kept)

  -- one task's turn, to the jump on the tasks left
  pub task_goes : (a left : ℕ) (t : TaskValues) → TaskRuns m a caller left t
      → Passes field_arithmetic m (task_length t) (state tasks_pc a caller) (task_rows m a caller t) (state (if down left 1 == 0 then exit_pc else tasks_pc) (next_turn t) caller)
  task_goes a left t by =
      let f = frame_at a in
      let homing : Passes field_arithmetic m 11 (state return_pc t.final_ap f) (rows_from boot_code 11 m (symbolic_state return_pc t.final_ap f)) (state branch_pc (next_turn t) caller) =
      ends_at field_arithmetic m 11 (passes boot_code m boot 11 (symbolic_state return_pc t.final_ap f) (return_rows m t.final_ap f) (return_goes m t.final_ap f left t.turn.header t.gap t.distance branch_pc caller t.stops by.return_cells))
      (return_ends m t.final_ap f t.gap branch_pc caller by.return_cells.gap_is by.return_cells.return_kept by.return_cells.caller_kept) in
      let turn : Passes field_arithmetic m 1 (state branch_pc (next_turn t) caller) (rows_from boot_code 1 m (symbolic_state branch_pc (next_turn t) caller)) (state (if down left 1 == 0 then exit_pc else tasks_pc) (next_turn t) caller) =
      ends_at field_arithmetic m 1 (passes boot_code m boot 1 (symbolic_state branch_pc (next_turn t) caller) (branch_rows m (next_turn t) caller) (branch_goes m (next_turn t) caller (down left 1) by.turns))
      (branch_ends m (next_turn t) caller (down left 1) by.turns.tasks_left) in
      joined field_arithmetic m (turns.turn_goes m boot a caller t.turn by.cells) (joined field_arithmetic m by.runs (joined field_arithmetic m homing turn))

  -- all tasks, by induction
  pub tasks_go : (a left : ℕ) (t : TaskValues) (rest : List TaskValues) → TasksRun m a caller left t rest
      → Passes field_arithmetic m (tasks_length t rest) (state tasks_pc a caller) (tasks_rows m a caller t rest) (state exit_pc (tasks_end t rest) caller)
  unfolding TasksRun tasks_rows tasks_end tasks_length
  tasks_go a left t [] by = ends_at field_arithmetic m (task_length t) (task_goes a left t by.0) (ap (λ x. state (if x == 0 then exit_pc else tasks_pc) (next_turn t) caller) by.1)
  tasks_go a left t (next ∷ rest) by =
      joined field_arithmetic m (ends_at field_arithmetic m (task_length t) (task_goes a left t by.0) (ap (λ (x : Bool). state (if x then exit_pc else tasks_pc) (next_turn t) caller) (is_not (down left 1) 0 by.1)))
      (tasks_go (next_turn t) (down left 1) next rest by.2)

  pub entry_passes : (a count output range hash : ℕ) → EntryCells m a caller count output range hash → Passes field_arithmetic m 4 (state entry_pc a caller) (rows_from boot_code 4 m (symbolic_state entry_pc a caller)) (state tasks_pc (up a 4) caller)
  entry_passes a count output range hash entry_cells =
      ends_at field_arithmetic m 4 (passes boot_code m boot 4 (symbolic_state entry_pc a caller) (entry_rows m a caller) (entry_goes m a caller count output range hash entry_cells)) (entry_ends m a caller)

  -- the whole batch
  pub batch_goes : (a count output range hash back : ℕ) (t : TaskValues) (rest : List TaskValues) → EntryCells m a caller count output range hash
      → TasksRun m (up a 4) caller count t rest → ExitCells m caller boot_end back
      → Passes field_arithmetic m (4 + (tasks_length t rest + 1)) (state entry_pc a caller)
      (rows_from boot_code 4 m (symbolic_state entry_pc a caller) ++ (tasks_rows m (up a 4) caller t rest ++ rows_from boot_code 1 m (symbolic_state exit_pc (tasks_end t rest) caller))) (state boot_end (tasks_end t rest) back)
  batch_goes a count output range hash back t rest entry_cells run exit_cells =
      let entry : Passes field_arithmetic m 4 (state entry_pc a caller) (rows_from boot_code 4 m (symbolic_state entry_pc a caller)) (state tasks_pc (up a 4) caller) =
      ends_at field_arithmetic m 4 (passes boot_code m boot 4 (symbolic_state entry_pc a caller) (entry_rows m a caller) (entry_goes m a caller count output range hash entry_cells)) (entry_ends m a caller) in
      let end = tasks_end t rest in
      let leaving : Passes field_arithmetic m 1 (state exit_pc end caller) (rows_from boot_code 1 m (symbolic_state exit_pc end caller)) (state boot_end end back) =
      ends_at field_arithmetic m 1 (passes boot_code m boot 1 (symbolic_state exit_pc end caller) (exit_rows m end caller) (exit_goes m end caller boot_end back exit_cells))
      (exit_ends m end caller boot_end back exit_cells.return_is exit_cells.caller_is) in
      joined field_arithmetic m entry (joined field_arithmetic m (tasks_go (up a 4) count t rest run) leaving)
