use Rattle.std.proofs.Common.{◌≡◌, ◌≤◌, ◌*◌, ◌^◌, take}
use Rattle.desk_script.specs.Transcripts.{steps_of_jobs}
use Rattle.shared_prover_cli.proofs.script_texts.steps_of.Given as goal

-- the steps so far, which are few for each job
abbrev pub invariant-loop-job : goal.invariant-loop-job
invariant-loop-job l = (l.total ≡ steps_of_jobs (take l.job-index l.jobs)) × (l.total ≤ l.job-index * 2 ^ 32)
