use Rattle.std.proofs.Common.{◌≡◌, ◌++◌, take}
use Rattle.std.specs.List.{flat_map}
use Rattle.desk_script.specs.Transcripts.{job_text}
use Rattle.desk_script.proofs.batches.put_jobs.Given as goal

abbrev pub invariant-loop-job : goal.invariant-loop-job
invariant-loop-job l = l.text.items ≡ l.fn.text.items ++ flat_map job_text (take l.job-index l.jobs)
