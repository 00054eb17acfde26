-- The laws of the bootloader, over any field memory that holds its words.
use Rattle.std.specs.Prelude.{ℕ, ◌≡◌, ◌+◌, ◌*◌, ◌<◌, ◌^◌, ◌++◌, ◌↔◌, true, List, length, Option, Some}
use Rattle.cairo_model.specs.Machine.Steps.{Registers, field_arithmetic, Step, RunFrom, last_of}
use Rattle.goldi_field.specs.Numbers.{prime}
use Rattle.cairo_model.specs.Machine.FieldMemories.{FieldCell, cell_at}
use Rattle.cairo_model.specs.Pie.BuiltinCells.{AreInstances}
use Rattle.cairo_model.specs.Certificate.Records.{CertRecord, SpanRecord}
use Rattle.cairo_model.specs.Certificate.Acceptance.{SpanHolds}
use Rattle.cairo_model.specs.Machine.Addresses.{up, down}
use Rattle.cairo_model.specs.Machine.Runs.{Passes}
use Rattle.cairo_model.specs.Machine.FieldMemories.{IsFieldMemory}
use Rattle.cairo_model.specs.Pie.Acceptance.{CheckedRecord}
use Rattle.boot_program.specs.Batch.Order.{InOrder, IsInsideTask}
use Rattle.boot_program.specs.Places.{branch_pc, entry_pc, exit_pc, return_pc, tasks_pc}
use Rattle.boot_program.specs.Words.{boot_code, boot_end, HasBoot, HasCode}
use Rattle.boot_program.specs.Rows.{SymbolicState, symbolic_state, is_row, instruction_at, RowHolds, next_symbolic, state_of, rows_from, are_rows, RowsHold, symbolic_after}
use Rattle.boot_program.specs.Cells.{EntryCells, ExitCells, Stops, state}
use Rattle.boot_program.specs.StretchLaws.{StretchLaws}
use Rattle.boot_program.specs.Turns.{TurnValues, TurnCells, ReachesCall, ReachesNextTurn, turn_length, turn_rows_of, task_start}
use Rattle.boot_program.specs.Tasks.{TaskValues, TasksRun, tasks_rows, tasks_end, tasks_length}
use Rattle.boot_program.specs.Frames.{HoldsTurn}
use Rattle.boot_program.specs.Instances.{InstancesAt}
use Rattle.boot_program.specs.Headers.{InstancesHold, HeaderIsTrue}

-- where a program has an instruction, the machine steps exactly where the memory holds the instruction's cells, and to one state
abbrev pub RowLaw : Type 0
RowLaw = (code m : ℕ → Option ℕ) → HasCode code m → (s : SymbolicState) → is_row code s ≡ true → (t : Registers ℕ)
    → Step field_arithmetic m (state_of s) t ↔ (RowHolds code m (instruction_at code s.pc) s × (t ≡ state_of (next_symbolic code m (instruction_at code s.pc) s)))

-- and so many instructions one after the other likewise, in just one way
abbrev pub RowsLaw : Type 0
RowsLaw = (code m : ℕ → Option ℕ) → HasCode code m → (n : ℕ) (s : SymbolicState) → are_rows code n m s ≡ true → (ts : List (Registers ℕ)) (t : Registers ℕ)
    → Passes field_arithmetic m n (state_of s) ts t ↔ (RowsHold code n m s × (ts ≡ rows_from code n m s) × (t ≡ state_of (symbolic_after code n m s)))

-- each stretch has its law
abbrev pub EachStretch : Type 0
EachStretch = (m : ℕ → Option ℕ) → HasBoot m → StretchLaws m

-- a task's cells make the run from the head of the loop over tasks to the task's first state
abbrev pub TurnRuns : Type 0
TurnRuns = (m : ℕ → Option ℕ) → HasBoot m → (a caller : ℕ) (n : TurnValues) → TurnCells m a caller n
    → Passes field_arithmetic m (turn_length n.more) (state tasks_pc a caller) (turn_rows_of m a caller n.more) (task_start a n)

-- and a run from that head to the end of the bootloader tells such cells
abbrev pub TurnTells : Type 0
TurnTells = (m : ℕ → Option ℕ) → HasBoot m → (a caller : ℕ) (ts : List (Registers ℕ)) → RunFrom field_arithmetic m (state tasks_pc a caller) ts
    → (last_of (state tasks_pc a caller) ts).pc ≡ boot_end → ReachesCall m a caller ts

-- a run from a task's return to the end of the bootloader tells the cells of the return
abbrev pub ReturnTells : Type 0
ReturnTells = (m : ℕ → Option ℕ) → HasBoot m → (ap f caller : ℕ) → m (down f 1) ≡ Some branch_pc → m (down f 2) ≡ Some caller
    → (ts : List (Registers ℕ)) → RunFrom field_arithmetic m (state return_pc ap f) ts → (last_of (state return_pc ap f) ts).pc ≡ boot_end → ReachesNextTurn m ap f caller ts

-- a task's own cells in order hold what its stretches ask up to the call
abbrev pub FrameHolds : Type 0
FrameHolds = (m : ℕ → Option ℕ) (a caller left : ℕ) (n : TurnValues) (gap distance : ℕ) (stops : Stops)
    → HoldsTurn m a caller left n gap distance stops → TurnCells m a caller n

-- the cells of the entry, of all tasks and of the exit make one run through the bootloader, from its entry to its end
abbrev pub BatchRuns : Type 0
BatchRuns = (m : ℕ → Option ℕ) → HasBoot m → (caller a count output range hash back : ℕ) (t : TaskValues) (rest : List TaskValues)
    → EntryCells m a caller count output range hash → TasksRun m (up a 4) caller count t rest → ExitCells m caller boot_end back
    → Passes field_arithmetic m (4 + (tasks_length t rest + 1)) (state entry_pc a caller)
    (rows_from boot_code 4 m (symbolic_state entry_pc a caller) ++ (tasks_rows m (up a 4) caller t rest ++ rows_from boot_code 1 m (symbolic_state exit_pc (tasks_end t rest) caller))) (state boot_end (tasks_end t rest) back)

-- where the hash instances are whole, a task's header says the program hash of its code
abbrev pub HeadersAreTrue : Type 0
HeadersAreTrue = (m : ℕ → Option ℕ) → IsFieldMemory m → (a caller : ℕ) (n : TurnValues) → TurnCells m a caller n → InstancesHold m n → n.more < 2 ^ 32 → HeaderIsTrue m n

-- the whole instances of a hash span stand one after the other
abbrev pub SpanHasInstances : Type 0
SpanHasInstances = (cells : List FieldCell) (span : SpanRecord) (numbers : List ℕ) → SpanHolds cells span numbers → AreInstances numbers → span.stop < prime
    → (more k : ℕ) → 20 * (k + more) < length numbers → InstancesAt (cell_at cells) more (span.start + 20 * k)

-- in a batch in order a row is inside one task at most
abbrev pub OneTaskARow : Type 0
OneTaskARow = (cert : CertRecord) (tasks : List CheckedRecord) → InOrder cert tasks → (i j row : ℕ) → IsInsideTask cert tasks i row → IsInsideTask cert tasks j row → i ≡ j
