use Rattle.std.proofs.Common.{◌≡◌, take}
use Rattle.desk_core.specs.Working.Registering.{facts_kept}
use Rattle.desk_core.proofs.register.facts_of.Given as goal

abbrev pub invariant-loop-job : goal.invariant-loop-job
invariant-loop-job l = l.facts.items ≡ facts_kept (take l.job-index l.jobs)
