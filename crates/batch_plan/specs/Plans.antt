-- Where everything of a batch stands: after the bootloader's words and its end come the frames, the output, the range cells, the
-- hash instances, and each task's program and other segments, each part task after task.
use Rattle.std.specs.Prelude.{ℕ, ◌≡◌, ◌+◌, ◌<◌, ◌≤◌, ◌≢◌, ◌^◌, ◌⊎◌, List, [], ◌∷◌, length, drop, take, slice_index, slice_get, All, Some}
use Rattle.cairo_model.specs.Limits.{least_segments}
use Rattle.cairo_model.specs.Segments.{program_segment, execution_segment, output_segment, range_segment, hash_segment}
use Rattle.cairo_model.specs.Pie.Layouts.{Fits, ShareNone, base_of}
use Rattle.cairo_model.specs.Pie.Records.{AreSizes}
use Rattle.cairo_model.specs.Certificate.Records.{SpanRecord}
use Rattle.boot_program.specs.Batch.Limits.{most_batch_tasks}
use Rattle.boot_program.specs.Batch.Output.{header_length}
use Rattle.boot_program.specs.Places.{return_pc}
use Rattle.boot_program.specs.Words.{boot_end}
use Rattle.batch_plan.specs.Parts.{BatchParts, batch_frame_length, loop_state_length, call_length, zeros_length, own_cells, own_instances, task_parts, parts_together, moved_by, taken_by}

-- what a `BatchLayout` is seen as: the bases of each task's segments, four stretches, and an address above all
pub record PlanRecord : Type 0 where
  pub tasks : List (List ℕ)
  pub frame : SpanRecord
  pub output : SpanRecord
  pub range : SpanRecord
  pub hash : SpanRecord
  pub free : ℕ

-- ---- the closed form

abbrev pub frame_start : ℕ
frame_start = boot_end + 1

-- behind the frames stands the state with which the loop over tasks ends
abbrev pub output_start : List (List ℕ) → ℕ
output_start tasks = frame_start + batch_frame_length + (parts_together tasks).frame + loop_state_length

-- the output begins with the number of tasks
abbrev pub range_start : List (List ℕ) → ℕ
range_start tasks = output_start tasks + 1 + (parts_together tasks).output

abbrev pub hash_start : List (List ℕ) → ℕ
hash_start tasks = range_start tasks + (parts_together tasks).range

abbrev pub programs_start : List (List ℕ) → ℕ
programs_start tasks = hash_start tasks + (parts_together tasks).hash

abbrev pub free_start : List (List ℕ) → ℕ
free_start tasks = programs_start tasks + (parts_together tasks).program

-- where the first task begins in each part
abbrev pub first_parts : List (List ℕ) → BatchParts
first_parts tasks = record {
  frame = frame_start + batch_frame_length;
  output = output_start tasks + 1;
  range = range_start tasks;
  hash = hash_start tasks;
  program = programs_start tasks;
}

-- and where the task of this number does: after all before it
abbrev pub parts_at : List (List ℕ) → ℕ → BatchParts
parts_at tasks i = moved_by (first_parts tasks) (parts_together (take i tasks))

-- segments without a place of their own, one after the other
unfoldable pub bases_on : ℕ → List ℕ → List ℕ
bases_on base [] = []
bases_on base (size ∷ sizes) = base ∷ bases_on (base + size) sizes

-- The bases of a task that begins so. Its frame pointer and its return address are those of the bootloader's call.
abbrev pub task_bases : BatchParts → List ℕ → List ℕ
task_bases at sizes = at.program
    ∷ (at.frame + own_cells (slice_index sizes program_segment))
    ∷ (at.output + header_length)
    ∷ at.range
    ∷ (at.hash + own_instances (slice_index sizes program_segment))
    ∷ (at.frame + (loop_state_length + call_length))
    ∷ return_pc
    ∷ bases_on (at.program + slice_index sizes program_segment + zeros_length) (drop least_segments sizes)

-- the bases of tasks, the first of which begins so
unfoldable pub bases_of_all : BatchParts → List (List ℕ) → List (List ℕ)
bases_of_all at [] = []
bases_of_all at (sizes ∷ tasks) = task_bases at sizes ∷ bases_of_all (moved_by at (task_parts sizes)) tasks

abbrev pub plan_of : List (List ℕ) → PlanRecord
plan_of tasks = record {
  tasks = bases_of_all (first_parts tasks) tasks;
  frame = record { start = frame_start; stop = output_start tasks };
  output = record { start = output_start tasks; stop = range_start tasks };
  range = record { start = range_start tasks; stop = hash_start tasks };
  hash = record { start = hash_start tasks; stop = programs_start tasks };
  free = free_start tasks;
}

-- ---- what a plan keeps

-- the bases and the sizes of the task of this number
pub record IsTaskLayout (plan : PlanRecord) (tasks : List (List ℕ)) (i : ℕ) (bases sizes : List ℕ) : Type 0 where
  pub are_bases : slice_get plan.tasks i ≡ Some bases
  pub are_sizes : slice_get tasks i ≡ Some sizes

-- from one address to below another
abbrev pub LiesFromTo : ℕ → ℕ → ℕ → ℕ → Type 0
LiesFromTo start stop base size = (start ≤ base) × (base + size ≤ stop)

abbrev pub LiesInside : SpanRecord → List ℕ → List ℕ → ℕ → Type 0
LiesInside span bases sizes segment = LiesFromTo span.start span.stop (base_of bases segment) (slice_index sizes segment)

-- no address in a segment of the one and a segment of the other, the zeros behind their programs included
abbrev pub ShareNoCell : List ℕ → List ℕ → ℕ → List ℕ → List ℕ → ℕ → Type 0
ShareNoCell bases sizes s others other_sizes t = ShareNone (base_of bases s) (taken_by sizes s) (base_of others t) (taken_by other_sizes t)

-- A task's layout fits, its zeros too. Segments 1 to 4 lie in the frame and the spans: segment 2 just after the task's header and
-- segment 4 just after the bootloader's instances for it. The program and the segments from 7 on lie above all spans.
pub record TaskLies (plan : PlanRecord) (at : BatchParts) (bases sizes : List ℕ) : Type 0 where
  pub fits : Fits bases sizes
  pub zeros_fit : (s t : ℕ) → s < length sizes → t < length sizes → s ≢ t → ShareNoCell bases sizes s bases sizes t
  pub in_frame : LiesInside plan.frame bases sizes execution_segment
  pub in_output : LiesInside plan.output bases sizes output_segment
  pub in_range : LiesInside plan.range bases sizes range_segment
  pub in_hash : LiesInside plan.hash bases sizes hash_segment
  pub after_header : base_of bases output_segment ≡ at.output + header_length
  pub range_in_order : base_of bases range_segment ≡ at.range
  pub after_instances : base_of bases hash_segment ≡ at.hash + own_instances (slice_index sizes program_segment)
  pub outside : (s : ℕ) → (s ≡ program_segment) ⊎ (least_segments ≤ s) → s < length sizes → LiesFromTo plan.hash.stop plan.free (base_of bases s) (taken_by sizes s)

-- The frame begins above the bootloader's end, so that nothing lies there; then come the spans, none of which is turned round.
pub record FollowBoot (plan : PlanRecord) : Type 0 where
  pub frame_after_end : boot_end < plan.frame.start
  pub frame_ordered : plan.frame.start ≤ plan.frame.stop
  pub output_after : plan.frame.stop ≤ plan.output.start
  pub output_ordered : plan.output.start ≤ plan.output.stop
  pub range_after : plan.output.stop ≤ plan.range.start
  pub range_ordered : plan.range.start ≤ plan.range.stop
  pub hash_after : plan.range.stop ≤ plan.hash.start
  pub hash_ordered : plan.hash.start ≤ plan.hash.stop
  pub free_after : plan.hash.stop ≤ plan.free

pub record IsPlan (plan : PlanRecord) (tasks : List (List ℕ)) : Type 0 where
  pub one_each : length plan.tasks ≡ length tasks
  pub lie : (i : ℕ) (bases sizes : List ℕ) → IsTaskLayout plan tasks i bases sizes → TaskLies plan (parts_at tasks i) bases sizes
  pub apart : (i j : ℕ) (bases sizes others other_sizes : List ℕ) → i < j → IsTaskLayout plan tasks i bases sizes → IsTaskLayout plan tasks j others other_sizes
      → (s t : ℕ) → s < length sizes → t < length other_sizes → ShareNoCell bases sizes s others other_sizes t
  pub in_order : FollowBoot plan
  pub free_low : plan.free < 2 ^ 32

-- so few tasks, each with sizes that a PIE may have
pub record ArePlannable (tasks : List (List ℕ)) : Type 0 where
  pub few : length tasks ≤ most_batch_tasks
  pub each : All AreSizes tasks

abbrev pub PlansHold : Type 0
PlansHold = (tasks : List (List ℕ)) → ArePlannable tasks → IsPlan (plan_of tasks) tasks
