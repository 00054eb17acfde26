-- Scripts that grow by a job.
use Rattle.std.proofs.Common.{◌≡◌, ℕ, suc, ◌+◌, ◌++◌, ap, arith}
use Rattle.work_maker.specs.Generator.{lines_of_job, script_of}

pub one_more_job : (job : ℕ) → script_of (job + 1) ≡ script_of job ++ lines_of_job job
unfolding script_of
one_more_job job =
    let e : job + 1 ≡ suc job = omega arith in
    ap script_of e
