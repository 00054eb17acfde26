-- What the cells hold where a run goes through a stretch of the bootloader (docs/BOOTLOADER.md has them as tables).
use Rattle.std.specs.Prelude.{ℕ, ◌≡◌, ◌-◌, ◌+◌, ◌==◌, if◌then◌else◌, Option, Some}
use Rattle.goldi_field.specs.Numbers.{sum_of, product_of}
use Rattle.cairo_model.specs.Machine.Steps.{Registers}
use Rattle.cairo_model.specs.Segments.{builtin_mask}
use Rattle.cairo_model.specs.Machine.Addresses.{up, down}
use Rattle.boot_program.specs.Places.{block_pc, branch_pc, header_pc, return_pc}
use Rattle.boot_program.specs.Rows.{cell_value}

-- the cell is there: an instruction reads its three operands, also those that it does not use
abbrev pub IsPresent : (ℕ → Option ℕ) → ℕ → Type 0
IsPresent m x = m x ≡ Some (cell_value m x)

-- a statement of the first places
abbrev pub Three : (ℕ → Type 0) → Type 0
Three P = P 0 × P 1 × P 2

abbrev pub Four : (ℕ → Type 0) → Type 0
Four P = P 0 × P 1 × P 2 × P 3

abbrev pub Seven : (ℕ → Type 0) → Type 0
Seven P = P 0 × P 1 × P 2 × P 3 × P 4 × P 5 × P 6

abbrev pub Eight : (ℕ → Type 0) → Type 0
Eight P = P 0 × P 1 × P 2 × P 3 × P 4 × P 5 × P 6 × P 7

abbrev pub state : ℕ → ℕ → ℕ → Registers ℕ
state pc ap fp = record { pc = pc; ap = ap; fp = fp }

-- From the entry to the loop over tasks. Below fp stand the starts of the output, range and hash spans; the first output is the
-- number of tasks; four cells from ap on hold that number and the three pointers, that of output after the first output.
pub record EntryCells (m : ℕ → Option ℕ) (a f count output range hash : ℕ) : Type 0 where
  pub output_start : m (down f 5) ≡ Some output
  pub range_start : m (down f 4) ≡ Some range
  pub hash_start : m (down f 3) ≡ Some hash
  pub idle : IsPresent m (down f 1)
  pub first_output : m (up output 0) ≡ Some count
  pub tasks_left : m (up a 0) ≡ Some count
  pub output_pointer : m (up a 1) ≡ Some (up output 1)
  pub range_pointer : m (up a 2) ≡ Some range
  pub hash_pointer : m (up a 3) ≡ Some hash

-- What the memory supplies for a task: its program's address, main and length, and the two bits of the number of zeros that fill
-- the last group of four words.
pub record TaskInputs : Type 0 where
  pub program : ℕ
  pub main : ℕ
  pub length : ℕ
  pub low_bit : ℕ
  pub high_bit : ℕ

-- the frame pointer of a task, from ap at the head of the loop over tasks
abbrev pub frame_at : ℕ → ℕ
frame_at a = up a 2

-- the address after the code, and its length with the zeros
abbrev pub code_end : TaskInputs → ℕ
code_end task = sum_of task.program task.length

abbrev pub with_low_bit : TaskInputs → ℕ
with_low_bit task = sum_of task.length task.low_bit

abbrev pub with_high_bit : TaskInputs → ℕ
with_high_bit task = sum_of (with_low_bit task) task.high_bit

abbrev pub padded_length : TaskInputs → ℕ
padded_length task = sum_of (with_high_bit task) task.high_bit

-- From the head of the loop over tasks to that of the loop over hash instances, with the addresses and sums that instructions read
-- as values of their own: the frame's constants and sums; three zeros after the code; in the first instance the start of the
-- chain and the group 1, main, length, mask; the first state of the next loop.
pub record PrologueCellsBy (m : ℕ → Option ℕ) (a caller hash : ℕ) (task : TaskInputs) (end one_more two_more : ℕ) : Type 0 where
  pub caller_kept : m (up a 0) ≡ Some caller
  pub return_kept : m (up a 1) ≡ Some branch_pc
  pub hash_pointer : m (down (frame_at a) 3) ≡ Some hash
  pub program : m (up (frame_at a) 0) ≡ Some task.program
  pub main : m (up (frame_at a) 1) ≡ Some task.main
  pub length : m (up (frame_at a) 2) ≡ Some task.length
  pub low_bit : m (up (frame_at a) 3) ≡ Some task.low_bit
  pub high_bit : m (up (frame_at a) 4) ≡ Some task.high_bit
  pub low_is_bit : task.low_bit ≡ product_of task.low_bit task.low_bit
  pub high_is_bit : task.high_bit ≡ product_of task.high_bit task.high_bit
  pub nought : m (up (frame_at a) 10) ≡ Some 0
  pub unit : m (up (frame_at a) 11) ≡ Some 1
  pub mask : m (up (frame_at a) 12) ≡ Some builtin_mask
  pub hashed_length : m (up (frame_at a) 13) ≡ Some (up task.length 4)
  pub end_is : m (up (frame_at a) 14) ≡ Some end
  pub end_sum : m (up (frame_at a) 14) ≡ Some (sum_of task.program task.length)
  pub begins : m (up (frame_at a) 15) ≡ Some (sum_of task.program task.main)
  pub one_more_is : m (up (frame_at a) 16) ≡ Some one_more
  pub one_more_sum : m (up (frame_at a) 16) ≡ Some (sum_of task.length task.low_bit)
  pub two_more_is : m (up (frame_at a) 17) ≡ Some two_more
  pub two_more_sum : m (up (frame_at a) 17) ≡ Some (sum_of one_more task.high_bit)
  pub words_left : m (up (frame_at a) 20) ≡ Some (sum_of two_more task.high_bit)
  pub zeros : Three (λ i. m (up end i) ≡ Some 0)
  pub start_words : Seven (λ i. m (up hash i) ≡ Some 0)
  pub start_length : m (up hash 7) ≡ Some (up task.length 4)
  pub group_unit : m (up hash 8) ≡ Some 1
  pub group_main : m (up hash 9) ≡ Some task.main
  pub group_length : m (up hash 10) ≡ Some task.length
  pub group_mask : m (up hash 11) ≡ Some builtin_mask
  pub next_instance : m (up (frame_at a) 18) ≡ Some (up hash 20)
  pub next_code : m (up (frame_at a) 19) ≡ Some task.program

-- the same, the sums being those of the inputs
abbrev pub PrologueCells : (ℕ → Option ℕ) → ℕ → ℕ → ℕ → TaskInputs → Type 0
PrologueCells m a caller hash task = PrologueCellsBy m a caller hash task (code_end task) (with_low_bit task) (with_high_bit task)

-- One turn of the loop over hash instances. Below ap stand the instance, the address of its code words, and the number of words
-- left; its words are those of the instance before, its numbers are the code words, and the next three cells are as much further.
pub record BlockCells (m : ℕ → Option ℕ) (a f instance code left : ℕ) (words numbers : ℕ → ℕ) : Type 0 where
  pub instance_pointer : m (down a 3) ≡ Some instance
  pub code_pointer : m (down a 2) ≡ Some code
  pub words_left : m (down a 1) ≡ Some left
  pub idle : IsPresent m (down f 1)
  pub words_before : Eight (λ i. m (down instance (8 - i)) ≡ Some (words i))
  pub words_between : Eight (λ i. m (up a i) ≡ Some (words i))
  pub words_in : Eight (λ i. m (up instance i) ≡ Some (words i))
  pub code_words : Four (λ i. m (up code i) ≡ Some (numbers i))
  pub numbers_between : Four (λ i. m (up a (8 + i)) ≡ Some (numbers i))
  pub numbers_in : Four (λ i. m (up instance (8 + i)) ≡ Some (numbers i))
  pub next_instance : m (up a 12) ≡ Some (up instance 20)
  pub next_code : m (up a 13) ≡ Some (up code 4)
  pub next_left : m (up a 14) ≡ Some (down left 4)

-- the state after a turn: back to the head where words are left
abbrev pub after_block : ℕ → ℕ → ℕ → Registers ℕ
after_block a f left = state (if down left 4 == 0 then header_pc else block_pc) (up a 15) f

-- From the end of that loop to the call: the header's words are those of the last instance; the program, main and length stand
-- just below the pointers that the task's own frame begins with.
pub record HeaderCells (m : ℕ → Option ℕ) (a f header range hash program main length : ℕ) (words : ℕ → ℕ) : Type 0 where
  pub hash_pointer : m (down a 3) ≡ Some hash
  pub header_pointer : m (down f 5) ≡ Some header
  pub range_pointer : m (down f 4) ≡ Some range
  pub idle : IsPresent m (down f 1)
  pub program_is : m (up f 0) ≡ Some program
  pub main_is : m (up f 1) ≡ Some main
  pub length_is : m (up f 2) ≡ Some length
  pub words_before : Eight (λ i. m (down hash (8 - i)) ≡ Some (words i))
  pub words_between : Eight (λ i. m (up a i) ≡ Some (words i))
  pub words_in : Eight (λ i. m (up header (1 + i)) ≡ Some (words i))
  pub program_copied : m (up a 8) ≡ Some program
  pub main_copied : m (up a 9) ≡ Some main
  pub length_copied : m (up a 10) ≡ Some length
  pub output_start : m (up a 11) ≡ Some (up header 9)
  pub range_start : m (up a 12) ≡ Some range
  pub hash_start : m (up a 13) ≡ Some hash

-- The call of the task: the next two cells keep the frame pointer and the return address, and the task begins where the frame
-- says.
pub record CallCells (m : ℕ → Option ℕ) (a f begin : ℕ) : Type 0 where
  pub begins : m (up f 15) ≡ Some begin
  pub frame_kept : m (up a 0) ≡ Some f
  pub return_kept : m (up a 1) ≡ Some return_pc

-- the stop pointers of a task
pub record Stops : Type 0 where
  pub output : ℕ
  pub range : ℕ
  pub hash : ℕ

-- The return of the task. Its stop pointers just below ap are copied into the frame; the stop of output is the header's address
-- plus the header's first cell; past the gap stand the four cells for the next task: the tasks left, and the stop pointers.
pub record ReturnCells (m : ℕ → Option ℕ) (a f left header gap distance return caller : ℕ) (stops : Stops) : Type 0 where
  pub output_stop : m (down a 3) ≡ Some stops.output
  pub range_stop : m (down a 2) ≡ Some stops.range
  pub hash_stop : m (down a 1) ≡ Some stops.hash
  pub output_kept : m (up f 6) ≡ Some stops.output
  pub range_kept : m (up f 7) ≡ Some stops.range
  pub hash_kept : m (up f 8) ≡ Some stops.hash
  pub gap_is : m (up f 5) ≡ Some gap
  pub header_pointer : m (down f 5) ≡ Some header
  pub distance_is : m (up f 9) ≡ Some distance
  pub is_distance : stops.output ≡ sum_of header distance
  pub in_header : m (up header 0) ≡ Some distance
  pub tasks_left : m (down f 6) ≡ Some left
  pub next_left : m (up (sum_of a gap) 0) ≡ Some (down left 1)
  pub next_output : m (up (sum_of a gap) 1) ≡ Some stops.output
  pub next_range : m (up (sum_of a gap) 2) ≡ Some stops.range
  pub next_hash : m (up (sum_of a gap) 3) ≡ Some stops.hash
  pub return_kept : m (down f 1) ≡ Some return
  pub caller_kept : m (down f 2) ≡ Some caller

-- The jump back, while tasks are left.
pub record BranchCells (m : ℕ → Option ℕ) (a f left : ℕ) : Type 0 where
  pub tasks_left : m (down a 4) ≡ Some left
  pub idle : IsPresent m (down f 1)

-- The exit: the run returns to the caller, the pointers standing just below ap.
pub record ExitCells (m : ℕ → Option ℕ) (f return caller : ℕ) : Type 0 where
  pub return_is : m (down f 1) ≡ Some return
  pub caller_is : m (down f 2) ≡ Some caller
