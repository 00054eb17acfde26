-- The bootloader's own numbers for a task, piece by piece.
use Rattle.std.specs.Prelude.{ℕ, List, [], ◌∷◌}
use Rattle.goldi_field.specs.Numbers.{sum_of}
use Rattle.cairo_model.specs.Machine.Addresses.{up}
use Rattle.cairo_model.specs.Segments.{builtin_mask}
use Rattle.boot_program.specs.Cells.{Stops, TaskInputs, code_end, with_high_bit, with_low_bit}
use Rattle.boot_program.specs.Places.{branch_pc}
use Rattle.boot_program.specs.Turns.{TurnValues}
use Rattle.batch_runner.specs.Layout.{boot_frame}
use Rattle.batch_runner.specs.declared.values.Inputs.{Inputs}

-- what the memory supplies for a task, of the code as plain data
abbrev pub inputs_of : Inputs → TaskInputs
inputs_of x = record { program = x.program.number; main = x.main.number; length = x.length.number; low_bit = x.low_bit.number; high_bit = x.high_bit.number }

-- the state of the loop over tasks, and what the call of a task's turn puts
abbrev pub state_list : ℕ → TurnValues → List ℕ
state_list left n = left ∷ n.header ∷ n.range ∷ n.hash ∷ boot_frame ∷ branch_pc ∷ []

-- the frame of a task up to its header's first cell
abbrev pub input_list : TaskInputs → List ℕ
input_list task = task.program ∷ task.main ∷ task.length ∷ task.low_bit ∷ task.high_bit ∷ []

abbrev pub return_list : ℕ → Stops → ℕ → List ℕ
return_list gap stops distance = gap ∷ stops.output ∷ stops.range ∷ stops.hash ∷ distance ∷ []

-- and from there on
abbrev pub sum_list : TaskInputs → List ℕ
sum_list task = 0 ∷ 1 ∷ builtin_mask ∷ up task.length 4 ∷ code_end task ∷ sum_of task.program task.main ∷ with_low_bit task ∷ with_high_bit task ∷ []

-- the program, just below the task's first cell
abbrev pub program_list : TaskInputs → List ℕ
program_list task = task.program ∷ task.main ∷ task.length ∷ []

-- the numbers of the first instance
abbrev pub first_group : TaskInputs → List ℕ
first_group task = 1 ∷ task.main ∷ task.length ∷ builtin_mask ∷ []
