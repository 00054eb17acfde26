use Rattle.work_maker.proofs.AdmittedJobs.{job_admitted}
use Rattle.work_maker.proofs.laws.made_jobs_are_admitted.Goals as goal

pub returns : goal.returns
returns c = job_admitted
