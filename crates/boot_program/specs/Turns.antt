-- One task, from the head of the loop over tasks to its call, and from its return to the head again.
use Rattle.std.specs.Prelude.{◌==◌, if◌then◌else◌, ℕ, ◌≡◌, ◌+◌, ◌*◌, ◌++◌, List, Option}
use Rattle.goldi_field.specs.Numbers.{sum_of}
use Rattle.cairo_model.specs.Machine.Steps.{Registers, field_arithmetic, RunFrom, last_of}
use Rattle.cairo_model.specs.Machine.Addresses.{up, down}
use Rattle.cairo_model.specs.Machine.Runs.{GoesOn}
use Rattle.boot_program.specs.Places.{branch_pc, call_pc, exit_pc, header_pc, return_pc, tasks_pc}
use Rattle.boot_program.specs.Words.{boot_code}
use Rattle.boot_program.specs.Rows.{symbolic_state, rows_from}
use Rattle.boot_program.specs.Cells.{TaskInputs, PrologueCells, HeaderCells, CallCells, ReturnCells, Stops, frame_at, padded_length, state}
use Rattle.boot_program.specs.HashLoop.{HashLoopCells, hash_loop_rows, hash_loop_end}
use Rattle.boot_program.specs.Instances.{instance_end}

-- ap at the head of the loop over hash instances
abbrev pub hash_loop_start : ℕ → ℕ
hash_loop_start a = up (frame_at a) 21

-- what a task brings up to its call: its inputs, the pointers that it finds, how many hash instances follow the first two, their
-- words and numbers, and the words of its program hash
pub record TurnValues : Type 0 where
  pub task : TaskInputs
  pub header : ℕ
  pub range : ℕ
  pub hash : ℕ
  pub more : ℕ
  pub words : ℕ → ℕ → ℕ
  pub numbers : ℕ → ℕ → ℕ
  pub digest : ℕ → ℕ

-- ap at the call
abbrev pub call_at : ℕ → TurnValues → ℕ
call_at a n = up (hash_loop_end n.more (hash_loop_start a)) 14

-- the cells of a task up to its call, stretch by stretch
pub record TurnCells (m : ℕ → Option ℕ) (a caller : ℕ) (n : TurnValues) : Type 0 where
  pub prologue : PrologueCells m a caller n.hash n.task
  pub turns : HashLoopCells m (frame_at a) n.more (hash_loop_start a) (up n.hash 20) n.task.program (padded_length n.task) n.words n.numbers
  pub header_cells : HeaderCells m (hash_loop_end n.more (hash_loop_start a)) (frame_at a) n.header n.range (instance_end n.more (up n.hash 20)) n.task.program n.task.main n.task.length n.digest
  pub call_cells : CallCells m (call_at a n) (frame_at a) (sum_of n.task.program n.task.main)

-- the steps up to the first state of the task, and the states after each
abbrev pub turn_length : ℕ → ℕ
turn_length more = 30 + (29 * (more + 1) + (23 + 1))

abbrev pub turn_rows_of : (ℕ → Option ℕ) → ℕ → ℕ → ℕ → List (Registers ℕ)
turn_rows_of m a caller more = rows_from boot_code 30 m (symbolic_state tasks_pc a caller)
    ++ (hash_loop_rows m (frame_at a) more (hash_loop_start a) ++ (rows_from boot_code 23 m (symbolic_state header_pc (hash_loop_end more (hash_loop_start a)) (frame_at a))
    ++ rows_from boot_code 1 m (symbolic_state call_pc (up (hash_loop_end more (hash_loop_start a)) 14) (frame_at a))))

-- the task's first state
abbrev pub task_start : ℕ → TurnValues → Registers ℕ
task_start a n = state (sum_of n.task.program n.task.main) (up (call_at a n) 2) (up (call_at a n) 2)

-- A run from the head of the loop over tasks to the bootloader's end goes to the call of a task, and on from its first state.
pub record ReachesCall (m : ℕ → Option ℕ) (a caller : ℕ) (ts : List (Registers ℕ)) : Type 0 where
  pub values : TurnValues
  pub cells : TurnCells m a caller values
  pub rest : List (Registers ℕ)
  pub parts : ts ≡ turn_rows_of m a caller values.more ++ rest
  pub goes_on : RunFrom field_arithmetic m (task_start a values) rest
  pub to_end : last_of (task_start a values) rest ≡ last_of (state tasks_pc a caller) ts

-- what a task leaves at its return: the tasks left, its header and gap, the length in its header, and its stop pointers
pub record EndedTask : Type 0 where
  pub left : ℕ
  pub header : ℕ
  pub gap : ℕ
  pub distance : ℕ
  pub stops : Stops

-- ap at the head of the loop again
abbrev pub turn_after : ℕ → EndedTask → ℕ
turn_after final_ap n = up (sum_of final_ap n.gap) 4

-- A run from a task's return to the bootloader's end goes to the head of the loop over tasks, or to the exit where none is left.
pub record ReachesNextTurn (m : ℕ → Option ℕ) (final_ap f caller : ℕ) (ts : List (Registers ℕ)) : Type 0 where
  pub values : EndedTask
  pub return_cells : ReturnCells m final_ap f values.left values.header values.gap values.distance branch_pc caller values.stops
  pub rest : List (Registers ℕ)
  pub on : GoesOn field_arithmetic m (state return_pc final_ap f) (state (if down values.left 1 == 0 then exit_pc else tasks_pc) (turn_after final_ap values) caller)
      (rows_from boot_code 11 m (symbolic_state return_pc final_ap f) ++ rows_from boot_code 1 m (symbolic_state branch_pc (turn_after final_ap values) caller)) ts rest
