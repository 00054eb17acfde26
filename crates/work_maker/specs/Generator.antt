-- The script that the generator writes (docs/SERVICE.md).
use Rattle.std.specs.Prelude.{ℕ, zero, suc, ◌+◌, ◌*◌, ◌/◌, ◌%◌, ◌==◌, Bool, if◌then◌else◌, List, [], ◌∷◌, ◌++◌, codes}
use Rattle.cairo_model.specs.Texts.Numbers.{numbers_text}
use Rattle.hex.specs.Hex.{encode_lower}
use Rattle.pie_format.specs.Writing.{file_of}
use Rattle.work_maker.specs.Down.{down_pie}
use Rattle.work_maker.specs.Limits.{script_clients, jobs_to_a_status, most_rounds, rounds_factor, rounds_shift}

-- the client that hands in the job of this number: they take turns
abbrev pub client_of_job : ℕ → ℕ
client_of_job job = job % script_clients

-- which of its client's jobs it is, counted from 0
abbrev pub number_of_job : ℕ → ℕ
number_of_job job = job / script_clients

-- the rounds of the job of this number
abbrev pub rounds_of_job : ℕ → ℕ
rounds_of_job job = 1 + (rounds_factor * job + rounds_shift) % most_rounds

-- the file of the PIE of DOWN in hexadecimal, with digits in lower case
unfoldable pub down_digits : ℕ → List ℕ
down_digits rounds = encode_lower (file_of (down_pie rounds))

-- submit C HEX, with the file of the job's PIE
abbrev pub submit_line : ℕ → List ℕ
submit_line job = codes "submit" ++ (numbers_text (client_of_job job ∷ []) ++ (codes " " ++ (down_digits (rounds_of_job job) ++ codes "\n")))

-- status C K, about the job that was handed in last
abbrev pub status_line : ℕ → List ℕ
status_line job = codes "status" ++ (numbers_text (client_of_job job ∷ number_of_job job ∷ []) ++ codes "\n")

-- whether the job is the last before a question
abbrev pub is_asked_about : ℕ → Bool
is_asked_about job = job % jobs_to_a_status + 1 == jobs_to_a_status

abbrev pub lines_of_job : ℕ → List ℕ
lines_of_job job = submit_line job ++ (if is_asked_about job then status_line job else [])

-- the script of so many jobs, one after the other
unfoldable pub script_of : ℕ → List ℕ
script_of zero = []
script_of (suc job) = script_of job ++ lines_of_job job
