-- The limits of a script (docs/SERVICE.md). The code's constants of the same names stand in src/limits.rt.
use Rattle.std.specs.Prelude.{ℕ, ◌^◌}

-- the most lines of a script
abbrev pub most_lines : ℕ
most_lines = 65536

-- the numbers of jobs that a script names are below this one
abbrev pub job_limit : ℕ
job_limit = 2 ^ 32
