use Rattle.std.proofs.Common.{◌≡◌, ◌+◌, ◌*◌, ◌^◌, ◌++◌, drop}
use Rattle.batch_plan.specs.Parts.{sizes_of_all}
use Rattle.batch_plan.specs.Plans.{bases_of_all}
use Rattle.batch_plan.specs.Working.Parts.{AreAtMost, most_part_cells, parts_of_code}
use Rattle.batch_plan.proofs.planning.layouts_from.Given as goal

abbrev pub invariant-loop-task : goal.invariant-loop-task
invariant-loop-task l =
    (l.layouts.items ++ bases_of_all (parts_of_code l.at) (sizes_of_all (drop l.task-index l.tasks)) ≡ bases_of_all (parts_of_code l.first) (sizes_of_all l.tasks))
    × AreAtMost (2 ^ 28 + l.task-index * most_part_cells) (parts_of_code l.at)
