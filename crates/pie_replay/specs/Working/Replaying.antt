-- What a replay has found so far.
use Rattle.std.specs.Prelude.{ℕ, ◌≡◌, ◌+◌, List, length}
use Rattle.cairo_model.specs.Pie.Acceptance.{start_of}
use Rattle.cairo_model.specs.Refusals.FirstFailing.{NoneBelow}
use Rattle.cairo_model.specs.Machine.Steps.{Registers, RunsTo, value_arithmetic}
use Rattle.cairo_model.specs.Pie.Records.{PieRecord, memory_of}
use Rattle.cairo_model.specs.Refusals.ReplayRefusals.{IsReplayCause, replay_number}
use Rattle.cairo_model.specs.Machine.Values.{Datum}
use Rattle.seg_memory.specs.Memory.{MemoryRecord, memory_in}

-- the memory has the cells of the PIE
abbrev pub IsMemoryOf : MemoryRecord → PieRecord → Type 0
IsMemoryOf memory pie = memory_in memory ≡ memory_of pie.cells

-- no cause with a number below this one applies
abbrev pub Passes : PieRecord → ℕ → Type 0
Passes pie n = NoneBelow replay_number (IsReplayCause pie) n

-- the run of the PIE's steps over its own cells, to this state
pub record IsClaimedRun (pie : PieRecord) (states : List (Registers Datum)) (last : Registers Datum) : Type 0 where
  pub runs : RunsTo value_arithmetic (memory_of pie.cells) (start_of pie) states last
  pub count : length states ≡ pie.steps + 1
