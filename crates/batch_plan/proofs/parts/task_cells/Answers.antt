use Rattle.std.proofs.Common.{arith}
use Rattle.batch_plan.proofs.Rooms.{size_few}
use Rattle.batch_plan.proofs.parts.task_cells.Goals as goal

pub returns-clause-few : goal.returns-clause-few
returns-clause-few c =
    let few = size_few c.args.sizes.now c.requires in
    let words = c.size_at-words.ensures.value in
    record {
      frame = omega (arith, words, few 0 (omega arith), few 1 (omega arith), c.cells_before_task.ensures.value, c.size_at.ensures.value);
      output = omega (arith, few 2 (omega arith), c.size_at-2.ensures.value);
      range = omega (arith, few 3 (omega arith), c.size_at-3.ensures.value);
      hash = omega (arith, words, few 0 (omega arith), few 4 (omega arith), c.instances_before_task.ensures.value, c.size_at-4.ensures.value);
      program = omega (arith, words, few 0 (omega arith), c.size_of_others.ensures.small);
    }
