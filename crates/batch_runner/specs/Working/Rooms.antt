-- Where a task has room in each part of a batch's memory.
use Rattle.std.specs.Prelude.{ℕ, List, length, sum, ◌+◌, ◌<◌, ◌^◌, ◌≤◌}
use Rattle.cairo_model.specs.Pie.Acceptance.{CheckedRecord}
use Rattle.boot_program.specs.Batch.Limits.{most_batch_cells, most_batch_steps, most_batch_tasks}
use Rattle.batch_runner.specs.Working.Tasks.{Task, checked_of}
use Rattle.batch_runner.specs.Layout.{hash_size, output_size, program_from, program_size, size, total, turn_size}
use Rattle.batch_plan.specs.Parts.{BatchParts}

-- an address above all parts
abbrev pub free_from : List CheckedRecord → ℕ
free_from ts = program_from ts + total program_size ts

-- a place with room for a task, and the spans one after the other
pub record HasRoom (t : CheckedRecord) (p : BatchParts) : Type 0 where
  pub above_boot : 124 ≤ p.frame
  pub turn_room : p.frame + turn_size t + 4 ≤ p.output
  pub output_room : p.output + output_size t ≤ p.range
  pub range_room : p.range + size t 3 ≤ p.hash
  pub hash_room : p.hash + hash_size t ≤ p.program
  pub program_room : p.program + program_size t < 2 ^ 32

-- the parts of these tasks end before the next part begins
pub record HasRooms (p : BatchParts) (ts : List CheckedRecord) : Type 0 where
  pub above_boot : 124 ≤ p.frame
  pub turn_rooms : p.frame + total turn_size ts + 4 ≤ p.output
  pub output_rooms : p.output + total output_size ts ≤ p.range
  pub range_rooms : p.range + total (λ t. size t 3) ts ≤ p.hash
  pub hash_rooms : p.hash + total hash_size ts ≤ p.program
  pub program_rooms : p.program + total program_size ts < 2 ^ 32

-- the limits of a batch, as sums over its tasks
pub record WithinLimits (ts : List Task) : Type 0 where
  pub few_tasks : length (checked_of ts) ≤ most_batch_tasks
  pub few_steps : total (λ t. t.pie.steps) (checked_of ts) ≤ most_batch_steps
  pub few_cells : total (λ t. sum t.pie.sizes) (checked_of ts) ≤ most_batch_cells
