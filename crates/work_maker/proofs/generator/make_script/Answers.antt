use Rattle.std.proofs.Common.{ℕ, List, ◌++◌, sym, ap, ◌∙◌}
use Rattle.work_maker.specs.Generator.{lines_of_job, script_of}
use Rattle.work_maker.proofs.Scripts.{one_more_job}
use Rattle.work_maker.proofs.generator.make_script.Goals as goal

pub loop-job-init : goal.loop-job-init
unfolding script_of
loop-job-init c = c.new-script.ensures.items

pub loop-job-preserved : goal.loop-job-preserved
loop-job-preserved c =
    let job = c.loop-job.job in
    c.in_ok-put_job.ensures ∙ ap (λ (t : List ℕ). t ++ lines_of_job job) c.loop-job.invariant ∙ sym (one_more_job job)
