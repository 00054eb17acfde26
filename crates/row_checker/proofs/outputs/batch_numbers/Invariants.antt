use Rattle.std.proofs.Common.{◌≡◌, ◌++◌, map, drop}
use Rattle.std.specs.Prelude.{flat_map}
use Rattle.boot_program.specs.Batch.Acceptance.{facts_of}
use Rattle.boot_program.specs.Batch.Output.{batch_output, task_output}
use Rattle.row_checker.proofs.outputs.batch_numbers.Given as goal

abbrev pub invariant-loop-task : goal.invariant-loop-task
invariant-loop-task l = map (λ f. f.number) l.numbers.items ++ flat_map task_output (facts_of (drop l.task-index l.tasks)) ≡ batch_output (facts_of l.tasks)
