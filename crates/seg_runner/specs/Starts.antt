-- What a run begins with: the code in the program segment, and the frame below the stack (docs/RUNNER.md).
use Rattle.std.specs.Prelude.{ℕ, ◌+◌, ◌==◌, nat_le, if◌then◌else◌, List, [], ◌∷◌, length, slice_get, Option, None, option_map, Result, Ok, Err}
use Rattle.cairo_model.specs.Limits.{most_cells}
use Rattle.cairo_model.specs.Machine.Steps.{Registers}
use Rattle.cairo_model.specs.Machine.Values.{Datum, number, place}
use Rattle.cairo_model.specs.Pie.Acceptance.{stack_start}
use Rattle.cairo_model.specs.Segments.{program_segment, execution_segment, builtin_mask, frame_segments}
use Rattle.seg_runner.specs.Memories.{GrowingMemory}
use Rattle.seg_runner.specs.Refusals.{RunCause, over_size}
use Rattle.seg_runner.specs.Steps.{Configuration}

-- the cells of the frame
abbrev pub frame_length : ℕ
frame_length = length (frame_segments builtin_mask)

abbrev pub start_cells : List ℕ → Datum → Option Datum
start_cells words (number a) = None
start_cells words (place segment offset) =
    if segment == program_segment then option_map number (slice_get words offset)
    else (if segment == execution_segment then option_map (λ start. place start 0) (slice_get (frame_segments builtin_mask) offset) else None)

abbrev pub start_memory : List ℕ → GrowingMemory
start_memory words = record {
  sizes = length words ∷ frame_length ∷ 0 ∷ 0 ∷ 0 ∷ 0 ∷ 0 ∷ [];
  cells = start_cells words;
}

abbrev pub start_registers : ℕ → Registers Datum
start_registers main = record { pc = place program_segment main; ap = stack_start builtin_mask; fp = stack_start builtin_mask }

-- what code and frame take counts as step 0
abbrev pub started : List ℕ → ℕ → Result Configuration RunCause
started words main =
    if nat_le (length words + frame_length) most_cells
    then Ok (record { memory = start_memory words; registers = start_registers main })
    else Err (over_size 0)
