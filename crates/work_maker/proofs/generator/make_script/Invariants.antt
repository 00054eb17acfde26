use Rattle.std.proofs.Common.{◌≡◌}
use Rattle.work_maker.specs.Generator.{script_of}
use Rattle.work_maker.proofs.generator.make_script.Given as goal

abbrev pub invariant-loop-job : goal.invariant-loop-job
invariant-loop-job l = l.script.items ≡ script_of l.job
