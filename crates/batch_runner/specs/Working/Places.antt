-- Where a task begins, of the code as plain data and in a plan.
use Rattle.std.specs.Prelude.{◌+◌}
use Rattle.batch_plan.specs.Parts.{BatchParts}
use Rattle.batch_plan.specs.Plans.{PlanRecord}
use Rattle.batch_runner.specs.Layout.{boot_frame}
use Rattle.batch_runner.specs.declared.place.TaskPlace.{TaskPlace}

abbrev pub place_of : TaskPlace → BatchParts
place_of at = record { frame = at.frame; output = at.output; range = at.range; hash = at.hash; program = at.program }

-- where a plan has the first task
abbrev pub first_in : PlanRecord → BatchParts
first_in plan = record {
  frame = boot_frame;
  output = plan.output.start + 1;
  range = plan.range.start;
  hash = plan.hash.start;
  program = plan.hash.stop;
}
