-- The tasks of a batch where the plan puts them, and each part of the memory task by task.
use Rattle.std.specs.Prelude.{ℕ, suc, ◌≡◌, ◌+◌, ◌-◌, List, [], ◌∷◌, ◌++◌, drop, length}
use Rattle.cairo_model.specs.Limits.{least_segments}
use Rattle.cairo_model.specs.Machine.FieldMemories.{FieldCell}
use Rattle.cairo_model.specs.Pie.Acceptance.{CheckedRecord}
use Rattle.cairo_model.specs.Segments.{execution_segment, hash_segment, output_segment, program_segment, range_segment}
use Rattle.boot_program.specs.Frames.{own_hash}
use Rattle.boot_program.specs.Tasks.{task_length}
use Rattle.boot_program.specs.Turns.{turn_length}
use Rattle.boot_program.specs.Words.{boot_end}
use Rattle.cairo_model.specs.Certificate.Records.{MarkRecord}
use Rattle.batch_plan.specs.Plans.{frame_start}
use Rattle.batch_runner.specs.Rows.{task_values_at}
use Rattle.boot_program.specs.Instances.{eight}
use Rattle.batch_plan.specs.Parts.{BatchParts, loop_state_length}
use Rattle.batch_runner.specs.Laws.{IsAccepted}
use Rattle.batch_runner.specs.Layout.{bases_at, code_of, more_turns, next_place, output_size, size}
use Rattle.batch_runner.specs.Memory.{part, placed_on, turn_cells, turn_values_at, words_at, words_part}
use Rattle.batch_runner.specs.Pieces.{numbered}
use Rattle.batch_runner.specs.Working.Rooms.{HasRoom}
use Rattle.batch_runner.specs.declared.parts.Part.{Part}
use Rattle.batch_runner.specs.declared.parts.Part.TheVariants as part

-- what a `PlacedTask` is seen as
pub record PlacedRecord : Type 0 where
  pub task : CheckedRecord
  pub place : BatchParts

-- what it keeps: an accepted task with room at its place, the place of the next task, its bases and its code
pub record IsPlaced (task : CheckedRecord) (place next : BatchParts) (bases code : List ℕ) : Type 0 where
  pub accepted : IsAccepted task
  pub room : HasRoom task place
  pub is_next : next ≡ next_place task place
  pub are_bases : bases ≡ bases_at task place
  pub is_code : code ≡ code_of task

-- each task, the first of which begins so
unfoldable pub placed_from : BatchParts → List CheckedRecord → List PlacedRecord
placed_from p [] = []
placed_from p (t ∷ ts) = record { task = t; place = p } ∷ placed_from (next_place t p) ts

-- a task's segment
abbrev pub segment_cells : ℕ → PlacedRecord → List FieldCell
segment_cells s x = part x.task x.place s

-- a task's cells in each part
abbrev pub frame_cells : ℕ → PlacedRecord → List FieldCell
frame_cells left x = turn_cells left x.task x.place ++ segment_cells execution_segment x

abbrev pub header_cells : PlacedRecord → List FieldCell
header_cells x = numbered x.place.output (output_size x.task ∷ eight (words_at x.task (more_turns (size x.task program_segment) + 1)))

abbrev pub output_cells : PlacedRecord → List FieldCell
output_cells x = header_cells x ++ segment_cells output_segment x

abbrev pub range_cells : PlacedRecord → List FieldCell
range_cells x = segment_cells range_segment x

abbrev pub instance_cells : PlacedRecord → List FieldCell
instance_cells x = numbered x.place.hash (own_hash (turn_values_at x.task x.place))

abbrev pub hash_cells : PlacedRecord → List FieldCell
hash_cells x = instance_cells x ++ segment_cells hash_segment x

abbrev pub zero_cells : PlacedRecord → List FieldCell
zero_cells x = numbered (x.place.program + size x.task program_segment) (0 ∷ 0 ∷ 0 ∷ [])

abbrev pub other_cells : PlacedRecord → List FieldCell
other_cells x = placed_on (bases_at x.task x.place) least_segments (drop least_segments x.task.pie.sizes) x.task.pie.cells

abbrev pub program_cells : PlacedRecord → List FieldCell
program_cells x = segment_cells program_segment x ++ (zero_cells x ++ other_cells x)

-- by the name that the code has for the part
abbrev pub cells_in : Part → PlacedRecord → List FieldCell
cells_in part.Outputs = output_cells
cells_in part.Ranges = range_cells
cells_in part.Hashes = hash_cells
cells_in part.Programs = program_cells

-- those of all tasks
unfoldable pub all_frame_cells : List PlacedRecord → List FieldCell
all_frame_cells [] = []
all_frame_cells (x ∷ xs) = frame_cells (suc (length xs)) x ++ all_frame_cells xs

unfoldable pub each_in_turn : (PlacedRecord → List FieldCell) → List PlacedRecord → List FieldCell
each_in_turn cells [] = []
each_in_turn cells (x ∷ xs) = cells x ++ each_in_turn cells xs

-- the frame of the batch, and the state with which the loop over tasks ends, by where the first task begins
abbrev pub boot_frame_list : BatchParts → List ℕ
boot_frame_list p = (p.output - 1) ∷ p.range ∷ p.hash ∷ 0 ∷ boot_end ∷ []

abbrev pub last_state_list : BatchParts → List ℕ
last_state_list p = 0 ∷ p.range ∷ p.hash ∷ p.program ∷ []

-- all cells, one part after the other
abbrev pub cells_in_turn : BatchParts → List PlacedRecord → List FieldCell
cells_in_turn p xs =
    ((((((((words_part ++ numbered frame_start (boot_frame_list p)) ++ all_frame_cells xs)
    ++ numbered (p.output - 1 - loop_state_length) (last_state_list p)) ++ numbered (p.output - 1) (length xs ∷ []))
    ++ each_in_turn output_cells xs) ++ each_in_turn range_cells xs) ++ each_in_turn hash_cells xs) ++ each_in_turn program_cells xs)

-- the steps of a task, its turn and its own
abbrev pub task_rows_of : PlacedRecord → ℕ
task_rows_of x = task_length (task_values_at x.task x.place)

unfoldable pub rows_of_all : List PlacedRecord → ℕ
rows_of_all [] = 0
rows_of_all (x ∷ xs) = task_rows_of x + rows_of_all xs

-- a mark for each
unfoldable pub marks_of_all : ℕ → List PlacedRecord → List MarkRecord
marks_of_all before [] = []
marks_of_all before (x ∷ xs) =
    record { row = before + turn_length (more_turns (size x.task program_segment)); bases = bases_at x.task x.place } ∷ marks_of_all (before + task_rows_of x) xs
