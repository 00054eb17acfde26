-- All cells of a batch as one list by rising addresses: the bootloader, the frames, the output, the range cells, the hash
-- instances, the programs with what has no span of its own. Each address has one writer.
use Rattle.std.specs.Prelude.{List, [], drop, if◌then◌else◌, length, slice_index, suc, ℕ, ◌%◌, ◌++◌, ◌+◌, ◌/◌, ◌==◌, ◌∷◌}
use Rattle.boot_program.specs.Cells.{Stops}
use Rattle.boot_program.specs.Frames.{own_hash, own_list}
use Rattle.boot_program.specs.Instances.{eight}
use Rattle.boot_program.specs.Turns.{TurnValues}
use Rattle.boot_program.specs.Words.{boot_end, boot_words}
use Rattle.builtin_hash.specs.Chains.{chain_start, group_at, words_after}
use Rattle.builtin_hash.specs.Instances.{instance_of}
use Rattle.cairo_model.specs.Machine.FieldMemories.{FieldCell}
use Rattle.cairo_model.specs.Pie.Layouts.{base_of, relocated}
use Rattle.cairo_model.specs.Pie.Records.{MemoryCell}
use Rattle.goldi_field.specs.Numbers.{difference_of}
use Rattle.cairo_model.specs.Pie.Acceptance.{CheckedRecord}
use Rattle.batch_runner.specs.Layout.{bases_at, boot_frame, code_of, first_place, hash_from, last_ap, more_turns, next_place, output_from, output_size, range_from, size, turn_size, zeros_for}
use Rattle.batch_runner.specs.Pieces.{numbered}
use Rattle.batch_plan.specs.Parts.{BatchParts}
use Rattle.batch_plan.specs.Plans.{frame_start}
use Rattle.boot_program.specs.Places.{entry_pc}
use Rattle.cairo_model.specs.Limits.{least_segments}
use Rattle.cairo_model.specs.Segments.{builtin_mask, execution_segment, hash_segment, output_segment, program_segment, range_segment}

-- what the bootloader is told of a task and works out: the words after its first instance, and the words and numbers of each turn
abbrev pub first_words : CheckedRecord → List ℕ
first_words t = instance_of (chain_start (size t program_segment + 4)) (1 ∷ t.pie.main ∷ size t program_segment ∷ builtin_mask ∷ [])

abbrev pub words_at : CheckedRecord → ℕ → ℕ → ℕ
words_at t j i = slice_index (words_after (first_words t) (code_of t) j) i

abbrev pub code_numbers_at : CheckedRecord → ℕ → ℕ → ℕ
code_numbers_at t j i = slice_index (group_at (code_of t) j) i

abbrev pub turn_values_at : CheckedRecord → BatchParts → TurnValues
turn_values_at t p = record {
  task = record { program = p.program; main = t.pie.main; length = size t program_segment; low_bit = zeros_for (size t program_segment) % 2; high_bit = zeros_for (size t program_segment) / 2 };
  header = p.output;
  range = p.range;
  hash = p.hash;
  more = more_turns (size t program_segment);
  words = words_at t;
  numbers = code_numbers_at t;
  digest = words_at t (more_turns (size t program_segment) + 1);
}

-- the stop pointers of the tasks before
abbrev pub stops_at : BatchParts → Stops
stops_at p = record { output = p.output; range = p.range; hash = p.hash }

-- where the task's run leaves ap, and from there to the next turn
abbrev pub final_ap_of : CheckedRecord → BatchParts → ℕ
final_ap_of t p = relocated (bases_at t p) (last_ap t.states)

abbrev pub gap_of : CheckedRecord → BatchParts → ℕ
gap_of t p = difference_of (p.frame + turn_size t) (final_ap_of t p)

-- a segment's cells, relocated
unfoldable pub placed : List ℕ → ℕ → List MemoryCell → List FieldCell
placed bases s [] = []
placed bases s (c ∷ cs) = if c.segment == s then (base_of bases s + c.offset, relocated bases c.value) ∷ placed bases s cs else placed bases s cs

-- so many segments, one after the other
unfoldable pub placed_on : List ℕ → ℕ → List ℕ → List MemoryCell → List FieldCell
placed_on bases s [] cells = []
placed_on bases s (size ∷ sizes) cells = placed bases s cells ++ placed_on bases (suc s) sizes cells

-- a task's segment, relocated
abbrev pub part : CheckedRecord → BatchParts → ℕ → List FieldCell
part t p s = placed (bases_at t p) s t.pie.cells

-- the bootloader's cells for a task, from the state of the loop over tasks on
abbrev pub turn_cells : ℕ → CheckedRecord → BatchParts → List FieldCell
turn_cells left t p = numbered p.frame (own_list boot_frame left (turn_values_at t p) (gap_of t p) (output_size t) (stops_at (next_place t p)))

-- each part, task after task. At the end of the frames stands the state that the loop over tasks ends with.
unfoldable pub frames : BatchParts → List CheckedRecord → List FieldCell
frames p [] = numbered p.frame (0 ∷ p.output ∷ p.range ∷ p.hash ∷ [])
frames p (t ∷ ts) = turn_cells (suc (length ts)) t p ++ (part t p execution_segment ++ frames (next_place t p) ts)

unfoldable pub outputs : BatchParts → List CheckedRecord → List FieldCell
outputs p [] = []
outputs p (t ∷ ts) = numbered p.output (output_size t ∷ eight (words_at t (more_turns (size t program_segment) + 1))) ++ (part t p output_segment ++ outputs (next_place t p) ts)

unfoldable pub ranges : BatchParts → List CheckedRecord → List FieldCell
ranges p [] = []
ranges p (t ∷ ts) = part t p range_segment ++ ranges (next_place t p) ts

unfoldable pub hashes : BatchParts → List CheckedRecord → List FieldCell
hashes p [] = []
hashes p (t ∷ ts) = numbered p.hash (own_hash (turn_values_at t p)) ++ (part t p hash_segment ++ hashes (next_place t p) ts)

unfoldable pub programs : BatchParts → List CheckedRecord → List FieldCell
programs p [] = []
programs p (t ∷ ts) =
    part t p program_segment ++ (numbered (p.program + size t program_segment) (0 ∷ 0 ∷ 0 ∷ [])
    ++ (placed_on (bases_at t p) least_segments (drop least_segments t.pie.sizes) t.pie.cells ++ programs (next_place t p) ts))

-- the bootloader's words
abbrev pub words_part : List FieldCell
words_part = numbered entry_pc boot_words

-- the frame of the batch and those of its tasks
abbrev pub frame_part : List CheckedRecord → List FieldCell
frame_part ts = numbered frame_start (output_from ts ∷ range_from ts ∷ hash_from ts ∷ 0 ∷ boot_end ∷ []) ++ frames (first_place ts) ts

-- the number of tasks and their headers and outputs
abbrev pub output_part : List CheckedRecord → List FieldCell
output_part ts = numbered (output_from ts) (length ts ∷ []) ++ outputs (first_place ts) ts

-- all cells
abbrev pub all_cells : List CheckedRecord → List FieldCell
all_cells ts = words_part ++ (frame_part ts ++ (output_part ts ++ (ranges (first_place ts) ts ++ (hashes (first_place ts) ts ++ programs (first_place ts) ts))))
