-- The limits of a PIE (docs/PIE.md). The code's constants of the same names stand in src/limits.rt.
use Rattle.std.specs.Prelude.{ℕ, ◌^◌}

-- the most bytes of a file
abbrev pub most_file_bytes : ℕ
most_file_bytes = 2097152

-- the most steps of a run
abbrev pub most_steps : ℕ
most_steps = 65536

-- the fewest segments: those that have a number of their own
abbrev pub least_segments : ℕ
least_segments = 7

-- the most segments
abbrev pub most_segments : ℕ
most_segments = 64

-- the most cells that all segments together have room for
abbrev pub most_cells : ℕ
most_cells = 65536

-- the offset of each place is below this one
abbrev pub offset_limit : ℕ
offset_limit = 2 ^ 31
