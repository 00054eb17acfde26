-- The segments of a PIE that have a number of their own (docs/PIE.md); from 7 on there are others. The code's constants
-- stand in src/segments.rt.
use Rattle.std.specs.Prelude.{ℕ, ◌/◌, ◌%◌, ◌==◌, if◌then◌else◌, List, [], ◌∷◌, ◌++◌}

-- the words of the program
abbrev pub program_segment : ℕ
program_segment = 0

-- the stack of the run
abbrev pub execution_segment : ℕ
execution_segment = 1

-- what the run gives
abbrev pub output_segment : ℕ
output_segment = 2

-- the range cells
abbrev pub range_segment : ℕ
range_segment = 3

-- the hash instances
abbrev pub hash_segment : ℕ
hash_segment = 4

-- empty: its start is the caller's frame pointer
abbrev pub return_fp_segment : ℕ
return_fp_segment = 5

-- empty: its start is the return address
abbrev pub return_pc_segment : ℕ
return_pc_segment = 6

-- ---- the builtins of a program, as the bits of a mask: 1 output, 2 range, 4 hash

-- the segment, where the mask has this bit
abbrev pub segment_in : ℕ → ℕ → ℕ → List ℕ
segment_in mask bit segment = if mask / bit % 2 == 1 then segment ∷ [] else []

-- the segments of the builtins that a mask has, in order
abbrev pub builtin_segments : ℕ → List ℕ
builtin_segments mask = segment_in mask 1 output_segment ++ (segment_in mask 2 range_segment ++ segment_in mask 4 hash_segment)

-- the segments whose starts a run finds in its frame: those of its builtins, and then the two of its return
abbrev pub frame_segments : ℕ → List ℕ
frame_segments mask = builtin_segments mask ++ return_fp_segment ∷ return_pc_segment ∷ []

-- the mask of a program that may use all three builtins
abbrev pub builtin_mask : ℕ
builtin_mask = 7
