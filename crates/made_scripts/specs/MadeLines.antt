-- The lines of the script that the generator writes (docs/SERVICE.md).
use Rattle.std.specs.Prelude.{ℕ, zero, suc, ◌<◌, List, [], ◌∷◌, ◌++◌, ⊤, if◌then◌else◌}
use Rattle.desk_script.specs.Lines.{ScriptLine, submits, asks, asks_status, settles}
use Rattle.pie_format.specs.Writing.{file_of}
use Rattle.work_maker.specs.Accepted.{IsAdmittedGiving}
use Rattle.work_maker.specs.Down.{down_pie}
use Rattle.work_maker.specs.Generator.{client_of_job, is_asked_about, number_of_job, rounds_of_job}

-- a job's client hands in its file
abbrev pub made_submit : ℕ → ScriptLine
made_submit job = submits (client_of_job job) (file_of (down_pie (rounds_of_job job)))

-- and asks about it, where it is the last before a question
abbrev pub made_question : ℕ → List ScriptLine
made_question job = if is_asked_about job then asks_status (client_of_job job) (number_of_job job) ∷ [] else []

-- the lines of so many jobs, one after the other
unfoldable pub made_lines : ℕ → List ScriptLine
made_lines zero = []
made_lines (suc job) = made_lines job ++ made_submit job ∷ made_question job

-- where the line hands in, its client is one of so many, and its file is admitted and gives these outputs
abbrev pub HandsInAdmitted : ℕ → List ℕ → ScriptLine → Type 0
HandsInAdmitted clients outputs (submits client bytes) = (client < clients) × IsAdmittedGiving bytes outputs
HandsInAdmitted clients outputs (asks client fact) = ⊤
HandsInAdmitted clients outputs (asks_status client number) = ⊤
HandsInAdmitted clients outputs (settles client) = ⊤
