-- The limits of the program.
use Rattle.std.specs.Prelude.{ℕ}

-- the most bytes of any input
abbrev pub input_limit : ℕ
input_limit = 201326592
