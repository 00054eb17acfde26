-- How much a task takes of each part of a batch's memory, by the sizes of its segments (docs/BOOTLOADER.md, 'The memory').
use Rattle.std.specs.Prelude.{ℕ, zero, suc, ◌+◌, ◌*◌, ◌/◌, List, drop, map, sum, slice_index}
use Rattle.cairo_model.specs.Limits.{least_segments}
use Rattle.cairo_model.specs.Segments.{program_segment, execution_segment, output_segment, range_segment, hash_segment}
use Rattle.cairo_model.specs.Pie.Acceptance.{CheckedRecord}
use Rattle.builtin_hash.specs.Instances.{cells_per_instance}
use Rattle.boot_program.specs.Batch.Output.{header_length}

-- ---- lengths in cells

-- the frame of the batch
abbrev pub batch_frame_length : ℕ
batch_frame_length = 5

-- the state of the loop over tasks: how many are left, and three pointers
abbrev pub loop_state_length : ℕ
loop_state_length = 4

-- what a call puts
abbrev pub call_length : ℕ
call_length = 2

-- the frame of a task
abbrev pub task_frame_length : ℕ
task_frame_length = 21

-- a turn of the loop over hash instances
abbrev pub hash_turn_length : ℕ
hash_turn_length = 15

-- what stands between the last of these turns and the task's call
abbrev pub header_copy_length : ℕ
header_copy_length = 11

-- the zeros behind a program
abbrev pub zeros_length : ℕ
zeros_length = 3

-- ---- how much the bootloader needs for a program of so many words

-- the turns of the loop over hash instances, one for four words, the last filled with zeros
abbrev pub hash_turns : ℕ → ℕ
hash_turns words = (words + 3) / 4

-- the cells from the state of the loop over tasks to the task's own
abbrev pub own_cells : ℕ → ℕ
own_cells words = loop_state_length + call_length + task_frame_length + header_copy_length + hash_turn_length * hash_turns words

-- the cells of the hash instances: the first one has the length, and each turn has one
abbrev pub own_instances : ℕ → ℕ
own_instances words = cells_per_instance * (hash_turns words + 1)

-- ---- how much a task takes

-- so many cells in each part, or an address in each: programs stand together with what has no span of its own
pub record BatchParts : Type 0 where
  pub frame : ℕ
  pub output : ℕ
  pub range : ℕ
  pub hash : ℕ
  pub program : ℕ

abbrev pub task_parts : List ℕ → BatchParts
task_parts sizes = record {
  frame = own_cells (slice_index sizes program_segment) + slice_index sizes execution_segment;
  output = header_length + slice_index sizes output_segment;
  range = slice_index sizes range_segment;
  hash = own_instances (slice_index sizes program_segment) + slice_index sizes hash_segment;
  program = slice_index sizes program_segment + zeros_length + sum (drop least_segments sizes);
}

abbrev pub parts_together : List (List ℕ) → BatchParts
parts_together tasks = record {
  frame = sum (map (λ t. (task_parts t).frame) tasks);
  output = sum (map (λ t. (task_parts t).output) tasks);
  range = sum (map (λ t. (task_parts t).range) tasks);
  hash = sum (map (λ t. (task_parts t).hash) tasks);
  program = sum (map (λ t. (task_parts t).program) tasks);
}

-- so much further on in each part
abbrev pub moved_by : BatchParts → BatchParts → BatchParts
moved_by at by = record { frame = at.frame + by.frame; output = at.output + by.output; range = at.range + by.range; hash = at.hash + by.hash; program = at.program + by.program }

-- the cells that a segment takes: its own, and the zeros behind a program
abbrev pub taken_by : List ℕ → ℕ → ℕ
taken_by sizes zero = slice_index sizes zero + zeros_length
taken_by sizes (suc s) = slice_index sizes (suc s)

-- the sizes of each task's segments
abbrev pub sizes_of_all : List CheckedRecord → List (List ℕ)
sizes_of_all tasks = map (λ t. t.pie.sizes) tasks
