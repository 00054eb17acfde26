-- What a memory has of a batch.
use Rattle.std.specs.Prelude.{List, Option, Some, [], drop, suc, ℕ, ◌+◌, ◌∷◌, ◌≡◌}
use Rattle.boot_program.specs.Frames.{own_hash}
use Rattle.boot_program.specs.Instances.{eight}
use Rattle.cairo_model.specs.Machine.FieldMemories.{FieldCell}
use Rattle.batch_runner.specs.Working.Tasks.{Task, checked_of}
use Rattle.batch_runner.specs.Layout.{bases_at, more_turns, next_place, output_size, size}
use Rattle.batch_runner.specs.Memory.{frames, hashes, turn_values_at, outputs, part, placed_on, programs, ranges, turn_cells, words_at}
use Rattle.batch_runner.specs.Pieces.{Stands, numbered}
use Rattle.batch_plan.specs.Parts.{BatchParts}

-- the memory has each cell of a list
abbrev pub HasEach : (ℕ → Option ℕ) → List FieldCell → Type 0
HasEach m xs = (a v : ℕ) → Stands a v xs → m a ≡ Some v

-- the memory has all of a task's cells, and the state of the next turn
pub record HasTask (m : ℕ → Option ℕ) (left : ℕ) (t : Task) (p : BatchParts) : Type 0 where
  pub own : HasEach m (turn_cells (suc left) t.checked p)
  pub execution : HasEach m (part t.checked p 1)
  pub header : HasEach m (numbered p.output (output_size t.checked ∷ eight (words_at t.checked (more_turns (size t.checked 0) + 1))))
  pub output : HasEach m (part t.checked p 2)
  pub range : HasEach m (part t.checked p 3)
  pub instances : HasEach m (numbered p.hash (own_hash (turn_values_at t.checked p)))
  pub hash : HasEach m (part t.checked p 4)
  pub program : HasEach m (part t.checked p 0)
  pub zeros : HasEach m (numbered (p.program + size t.checked 0) (0 ∷ 0 ∷ 0 ∷ []))
  pub others : HasEach m (placed_on (bases_at t.checked p) 7 (drop 7 t.checked.pie.sizes) t.checked.pie.cells)
  pub next : HasEach m (numbered (next_place t.checked p).frame (left ∷ (next_place t.checked p).output ∷ (next_place t.checked p).range ∷ (next_place t.checked p).hash ∷ []))

-- the memory has all parts of these tasks
pub record HasAllParts (m : ℕ → Option ℕ) (p : BatchParts) (ts : List Task) : Type 0 where
  pub frame : HasEach m (frames p (checked_of ts))
  pub output : HasEach m (outputs p (checked_of ts))
  pub range : HasEach m (ranges p (checked_of ts))
  pub hash : HasEach m (hashes p (checked_of ts))
  pub program : HasEach m (programs p (checked_of ts))
