-- Where the tasks of a batch stand, task after task: as a plan has them, worked out from the first task on.
use Rattle.std.specs.Prelude.{List, [], drop, option_map, slice_index, suc, sum, unwrap_or, zero, ℕ, ◌*◌, ◌+◌, ◌-◌, ◌/◌, ◌∷◌}
use Rattle.batch_plan.specs.Plans.{bases_on, frame_start}
use Rattle.cairo_model.specs.Machine.Steps.{Registers, last_of}
use Rattle.cairo_model.specs.Machine.Values.{Datum, number, place}
use Rattle.cairo_model.specs.Pie.Acceptance.{CheckedRecord}
use Rattle.cairo_model.specs.Pie.Records.{MemoryCell, segment_size, value_at}
use Rattle.batch_plan.specs.Parts.{BatchParts, batch_frame_length, call_length, hash_turn_length, header_copy_length, loop_state_length, task_frame_length, zeros_length}
use Rattle.boot_program.specs.Batch.Output.{header_length}
use Rattle.boot_program.specs.Places.{return_pc}
use Rattle.builtin_hash.specs.Instances.{cells_per_instance}
use Rattle.cairo_model.specs.Limits.{least_segments}
use Rattle.cairo_model.specs.Segments.{execution_segment, hash_segment, output_segment, program_segment, range_segment}

-- the size of a segment
abbrev pub size : CheckedRecord → ℕ → ℕ
size t s = segment_size t.pie s

-- the program segment's numbers, read off the cells, and where a run leaves ap
abbrev pub plain_number : Datum → ℕ
plain_number (number n) = n
plain_number (place s o) = 0

unfoldable pub code_from : List MemoryCell → ℕ → ℕ → List ℕ
code_from cells i zero = []
code_from cells i (suc n) = unwrap_or (option_map plain_number (value_at cells program_segment i)) 0 ∷ code_from cells (suc i) n

abbrev pub last_ap : List (Registers Datum) → Datum
last_ap [] = number 0
last_ap (s ∷ ss) = (last_of s ss).ap

-- the words of a task's program
abbrev pub code_of : CheckedRecord → List ℕ
code_of t = code_from t.pie.cells 0 (size t program_segment)

-- the words that a turn of the loop over hash instances takes
abbrev pub words_per_turn : ℕ
words_per_turn = 4

-- the turns of that loop after the first, for so many words, and the zeros that fill the last
abbrev pub more_turns : ℕ → ℕ
more_turns c = (c - 1) / words_per_turn

abbrev pub zeros_for : ℕ → ℕ
zeros_for c = words_per_turn * (more_turns c + 1) - c

-- the cells of the segments that have no part of their own
abbrev pub others_size : CheckedRecord → ℕ
others_size t = sum (drop least_segments t.pie.sizes)

-- the cells of a turn of the loop over tasks up to the task's own, for so many words, and those of the hash instances
abbrev pub cells_before : ℕ → ℕ
cells_before c = loop_state_length + call_length + task_frame_length + header_copy_length + hash_turn_length * (more_turns c + 1)

abbrev pub instances_before : ℕ → ℕ
instances_before c = cells_per_instance * (more_turns c + 2)

-- how much a task takes of each part
abbrev pub turn_size : CheckedRecord → ℕ
turn_size t = cells_before (size t program_segment) + size t execution_segment

abbrev pub output_size : CheckedRecord → ℕ
output_size t = header_length + size t output_segment

abbrev pub hash_size : CheckedRecord → ℕ
hash_size t = instances_before (size t program_segment) + size t hash_segment

abbrev pub program_size : CheckedRecord → ℕ
program_size t = size t program_segment + zeros_length + others_size t

-- a number summed over the tasks
unfoldable pub total : (CheckedRecord → ℕ) → List CheckedRecord → ℕ
total f [] = 0
total f (t ∷ ts) = f t + total f ts

-- where the next task begins in each part, after this one
abbrev pub next_place : CheckedRecord → BatchParts → BatchParts
next_place t p = record {
  frame = p.frame + turn_size t;
  output = p.output + output_size t;
  range = p.range + size t range_segment;
  hash = p.hash + hash_size t;
  program = p.program + program_size t;
}

-- and where the parts end, after all tasks
unfoldable pub end_place : BatchParts → List CheckedRecord → BatchParts
end_place p [] = p
end_place p (t ∷ ts) = end_place (next_place t p) ts

-- the bases of a task's segments where it begins at these addresses, by the sizes alone
abbrev pub bases_for : List ℕ → BatchParts → List ℕ
bases_for sizes p =
    p.program ∷ (p.frame + cells_before (slice_index sizes program_segment)) ∷ (p.output + header_length) ∷ p.range ∷ (p.hash + instances_before (slice_index sizes program_segment))
    ∷ (p.frame + (loop_state_length + call_length)) ∷ return_pc ∷ bases_on (p.program + slice_index sizes program_segment + zeros_length) (drop least_segments sizes)

abbrev pub bases_at : CheckedRecord → BatchParts → List ℕ
bases_at t p = bases_for t.pie.sizes p

-- the frame pointer of the batch's run: its frame stands just below, above the bootloader's end
abbrev pub boot_frame : ℕ
boot_frame = frame_start + batch_frame_length

-- the spans' starts, and where the first task stands
abbrev pub output_from : List CheckedRecord → ℕ
output_from ts = boot_frame + loop_state_length + total turn_size ts

abbrev pub range_from : List CheckedRecord → ℕ
range_from ts = output_from ts + 1 + total output_size ts

abbrev pub hash_from : List CheckedRecord → ℕ
hash_from ts = range_from ts + total (λ t. size t range_segment) ts

abbrev pub program_from : List CheckedRecord → ℕ
program_from ts = hash_from ts + total hash_size ts

abbrev pub first_place : List CheckedRecord → BatchParts
first_place ts = record { frame = boot_frame; output = output_from ts + 1; range = range_from ts; hash = hash_from ts; program = program_from ts }
