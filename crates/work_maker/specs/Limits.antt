-- The numbers of the generator. The code's constants of the same names stand in src/limits.rt.
use Rattle.std.specs.Prelude.{ℕ}

-- the most jobs of a script
abbrev pub most_jobs : ℕ
most_jobs = 256

-- the clients of a script, who take turns
abbrev pub script_clients : ℕ
script_clients = 4

-- after so many jobs the last of them is asked about
abbrev pub jobs_to_a_status : ℕ
jobs_to_a_status = 8

-- the rounds of the jobs are scattered from 1 up to this number
abbrev pub most_rounds : ℕ
most_rounds = 500

-- what scatters the rounds: a job's number is multiplied by this one
abbrev pub rounds_factor : ℕ
rounds_factor = 7919

-- what is added to that product
abbrev pub rounds_shift : ℕ
rounds_shift = 13

-- the steps of one round of the countdown
abbrev pub round_steps : ℕ
round_steps = 4

-- the steps of a countdown before its rounds and after them
abbrev pub other_steps : ℕ
other_steps = 8
