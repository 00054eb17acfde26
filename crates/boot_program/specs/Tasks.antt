-- All tasks of a batch, one after the other.
use Rattle.std.specs.Prelude.{ℕ, ◌≡◌, ◌≢◌, ◌+◌, ◌++◌, List, [], ◌∷◌, length, Option}
use Rattle.goldi_field.specs.Numbers.{sum_of}
use Rattle.cairo_model.specs.Machine.Steps.{Registers, field_arithmetic}
use Rattle.cairo_model.specs.Machine.Addresses.{up, down}
use Rattle.cairo_model.specs.Machine.Runs.{Passes}
use Rattle.boot_program.specs.Places.{branch_pc, return_pc}
use Rattle.boot_program.specs.Words.{boot_code}
use Rattle.boot_program.specs.Rows.{symbolic_state, rows_from}
use Rattle.boot_program.specs.Cells.{ReturnCells, BranchCells, Stops, frame_at, state}
use Rattle.boot_program.specs.Turns.{TurnValues, TurnCells, task_start, turn_rows_of, turn_length}

-- a task's values up to its call, the states of its own run after the first, its last ap, and what it leaves
pub record TaskValues : Type 0 where
  pub turn : TurnValues
  pub states : List (Registers ℕ)
  pub final_ap : ℕ
  pub gap : ℕ
  pub distance : ℕ
  pub stops : Stops

-- ap at the head of the loop for the next task
abbrev pub next_turn : TaskValues → ℕ
next_turn t = up (sum_of t.final_ap t.gap) 4

-- a whole task: its cells up to the call, its own run until it returns, its cells at the return, and at the jump back
pub record TaskRuns (m : ℕ → Option ℕ) (a caller left : ℕ) (t : TaskValues) : Type 0 where
  pub cells : TurnCells m a caller t.turn
  pub runs : Passes field_arithmetic m (length t.states) (task_start a t.turn) t.states (state return_pc t.final_ap (frame_at a))
  pub return_cells : ReturnCells m t.final_ap (frame_at a) left t.turn.header t.gap t.distance branch_pc caller t.stops
  pub turns : BranchCells m (next_turn t) caller (down left 1)

-- its states after the first
abbrev pub task_rows : (ℕ → Option ℕ) → ℕ → ℕ → TaskValues → List (Registers ℕ)
task_rows m a caller t = turn_rows_of m a caller t.turn.more ++ (t.states ++ (rows_from boot_code 11 m (symbolic_state return_pc t.final_ap (frame_at a)) ++ rows_from boot_code 1 m (symbolic_state branch_pc (next_turn t) caller)))

-- one task and those after it: tasks are left after each but the last
unfoldable pub TasksRun : (ℕ → Option ℕ) → ℕ → ℕ → ℕ → TaskValues → List TaskValues → Type 0
TasksRun m a caller left t [] = TaskRuns m a caller left t × (down left 1 ≡ 0)
TasksRun m a caller left t (next ∷ rest) = TaskRuns m a caller left t × (down left 1 ≢ 0) × TasksRun m (next_turn t) caller (down left 1) next rest

unfoldable pub tasks_rows : (ℕ → Option ℕ) → ℕ → ℕ → TaskValues → List TaskValues → List (Registers ℕ)
tasks_rows m a caller t [] = task_rows m a caller t
tasks_rows m a caller t (next ∷ rest) = task_rows m a caller t ++ tasks_rows m (next_turn t) caller next rest

unfoldable pub tasks_end : TaskValues → List TaskValues → ℕ
tasks_end t [] = next_turn t
tasks_end t (next ∷ rest) = tasks_end next rest

abbrev pub task_length : TaskValues → ℕ
task_length t = turn_length t.turn.more + (length t.states + (11 + 1))

unfoldable pub tasks_length : TaskValues → List TaskValues → ℕ
tasks_length t [] = task_length t
tasks_length t (next ∷ rest) = task_length t + tasks_length next rest
