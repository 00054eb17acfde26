-- The states of a batch: the bootloader's between the tasks' relocated isolated runs.
use Rattle.std.specs.Prelude.{List, Option, [], drop, map, ℕ, ◌++◌, ◌+◌, ◌∷◌}
use Rattle.boot_program.specs.Rows.{rows_from, symbolic_state}
use Rattle.boot_program.specs.Tasks.{TaskValues, tasks_end, tasks_length, tasks_rows}
use Rattle.boot_program.specs.Words.{boot_code}
use Rattle.cairo_model.specs.Machine.FieldMemories.{cell_at}
use Rattle.cairo_model.specs.Machine.Steps.{Registers}
use Rattle.cairo_model.specs.Machine.Values.{Datum}
use Rattle.cairo_model.specs.Pie.Layouts.{relocated_state}
use Rattle.cairo_model.specs.Pie.Acceptance.{CheckedRecord}
use Rattle.batch_runner.specs.Layout.{bases_at, boot_frame, first_place, next_place, output_size}
use Rattle.batch_runner.specs.Memory.{all_cells, gap_of, final_ap_of, turn_values_at, stops_at}
use Rattle.batch_plan.specs.Parts.{BatchParts}
use Rattle.boot_program.specs.Places.{entry_pc, exit_pc}
use Rattle.batch_plan.specs.Parts.{loop_state_length}

-- the states of a task's own run after its first, relocated
abbrev pub task_states : List ℕ → List (Registers Datum) → List (Registers ℕ)
task_states bases states = drop 1 (map (relocated_state bases) states)

-- what the bootloader's loop over tasks has of a task
abbrev pub task_values_at : CheckedRecord → BatchParts → TaskValues
task_values_at t p = record {
  turn = turn_values_at t p;
  states = task_states (bases_at t p) t.states;
  final_ap = final_ap_of t p;
  gap = gap_of t p;
  distance = output_size t;
  stops = stops_at (next_place t p);
}

-- the same of each task, from where the first begins
unfoldable pub values_of_all : BatchParts → List CheckedRecord → List TaskValues
values_of_all p [] = []
values_of_all p (t ∷ ts) = task_values_at t p ∷ values_of_all (next_place t p) ts

-- a batch's memory
abbrev pub memory_of_batch : List CheckedRecord → ℕ → Option ℕ
memory_of_batch ts = cell_at (all_cells ts)

-- the states of its run after the first: through the entry, all tasks and the exit
abbrev pub batch_rows : CheckedRecord → List CheckedRecord → List (Registers ℕ)
batch_rows t ts =
    let m = memory_of_batch (t ∷ ts) in
    let p = first_place (t ∷ ts) in
    let later = values_of_all (next_place t p) ts in
    rows_from boot_code 4 m (symbolic_state entry_pc boot_frame boot_frame) ++ (tasks_rows m (boot_frame + loop_state_length) boot_frame (task_values_at t p) later ++ rows_from boot_code 1 m (symbolic_state exit_pc (tasks_end (task_values_at t p) later) boot_frame))

-- and how many they are
abbrev pub batch_length : CheckedRecord → List CheckedRecord → ℕ
batch_length t ts = let p = first_place (t ∷ ts) in 4 + (tasks_length (task_values_at t p) (values_of_all (next_place t p) ts) + 1)
