-- The limits of the numbers among the words. The code's constants of the same names stand in src/limits.rt.
use Rattle.std.specs.Prelude.{ℕ}

-- the most digits of a number among the words
abbrev pub most_digits : ℕ
most_digits = 10

-- the fewest jobs that a script is made of
abbrev pub least_jobs : ℕ
least_jobs = 1

-- the fewest clients of a desk
abbrev pub least_clients : ℕ
least_clients = 1

-- the fewest workers of a desk that is served by threads
abbrev pub least_workers : ℕ
least_workers = 1

-- the least and the greatest number of a batch that may be asked for
abbrev pub least_batch : ℕ
least_batch = 0

abbrev pub most_batch : ℕ
most_batch = 4294967295
