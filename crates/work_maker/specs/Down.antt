-- DOWN: the program that copies a cell in each of its rounds, counts the rounds down to 0, and gives the cell out, which is
-- 1; and its run as a PIE. The program stands as a text in examples/down.casm.
use Rattle.std.specs.Prelude.{ℕ, zero, suc, ◌+◌, ◌*◌, List, [], ◌∷◌, ◌++◌, length, map}
use Rattle.cairo_model.specs.Machine.Values.{Datum, number, place}
use Rattle.cairo_model.specs.Pie.Records.{MemoryCell, PieRecord}
use Rattle.cairo_model.specs.Segments.{program_segment, execution_segment, output_segment, range_segment, hash_segment, builtin_mask, frame_segments}
use Rattle.work_maker.specs.Limits.{round_steps, other_steps}

-- ---- the words of the program

-- [ap] = 1, ap++; again; and the first word of the one that puts the rounds
abbrev pub words_before_rounds : List ℕ
words_before_rounds = 0x480680017fff8000 ∷ 1 ∷ 0x480680017fff8000 ∷ 1 ∷ 0x480680017fff8000 ∷ []

-- a round: [ap] = [ap-2], ap++; [ap] = [ap-3], ap++; [ap] = [ap-3] + -1, ap++; jmp rel -4 if [ap-1] != 0
abbrev pub words_of_a_round : List ℕ
words_of_a_round = 0x48127ffe7fff8000 ∷ 0x48127ffd7fff8000 ∷ 0x482480017ffd8000 ∷ 0xffffffff00000000 ∷ 0x020680017fff7fff ∷ 0xfffffffefffffffd ∷ []

-- [ap-3] = [[fp-5]]; [ap] = [fp-5] + 1, ap++; [ap] = [fp-4], ap++; [ap] = [fp-3], ap++; ret
abbrev pub words_of_the_end : List ℕ
words_of_the_end = 0x400280007ffb7ffd ∷ 0x482680017ffb8000 ∷ 1 ∷ 0x480a7ffc7fff8000 ∷ 0x480a7ffd7fff8000 ∷ 0x208b7fff7fff7ffe ∷ []

abbrev pub down_code : ℕ → List ℕ
down_code rounds = words_before_rounds ++ rounds ∷ (words_of_a_round ++ words_of_the_end)

-- ---- the stack

-- the starts of the segments that a run finds in its frame
abbrev pub frame_starts : List Datum
frame_starts = map (λ segment. place segment 0) (frame_segments builtin_mask)

-- two ones, and the rounds that are left
abbrev pub round_values : ℕ → List Datum
round_values left = number 1 ∷ number 1 ∷ number left ∷ []

-- what so many rounds put: each leaves one less
unfoldable pub countdown : ℕ → List Datum
countdown zero = []
countdown (suc left) = round_values left ++ countdown left

-- the ends of the segments of the builtins: one output
abbrev pub down_stops : List Datum
down_stops = place output_segment 1 ∷ place range_segment 0 ∷ place hash_segment 0 ∷ []

abbrev pub down_stack : ℕ → List Datum
down_stack rounds = frame_starts ++ (round_values rounds ++ (countdown rounds ++ down_stops))

-- ---- the output

abbrev pub down_outputs : List ℕ
down_outputs = 1 ∷ []

-- ---- the PIE

-- the cells of a segment from an offset on that have these values
unfoldable pub cells_with : ℕ → ℕ → List Datum → List MemoryCell
cells_with segment offset [] = []
cells_with segment offset (value ∷ values) = record { segment = segment; offset = offset; value = value } ∷ cells_with segment (suc offset) values

abbrev pub down_cells : ℕ → List MemoryCell
down_cells rounds =
    cells_with program_segment 0 (map number (down_code rounds))
    ++ (cells_with execution_segment 0 (down_stack rounds)
    ++ cells_with output_segment 0 (map number down_outputs))

abbrev pub down_sizes : ℕ → List ℕ
down_sizes rounds = length (down_code rounds) ∷ length (down_stack rounds) ∷ length down_outputs ∷ 0 ∷ 0 ∷ 0 ∷ 0 ∷ []

-- the PIE of DOWN with so many rounds
abbrev pub down_pie : ℕ → PieRecord
down_pie rounds = record {
  main = 0;
  steps = other_steps + round_steps * rounds;
  sizes = down_sizes rounds;
  cells = down_cells rounds;
}
