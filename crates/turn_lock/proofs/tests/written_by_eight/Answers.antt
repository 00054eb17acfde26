use Rattle.std.proofs.Common.{◌∙◌}
use Rattle.turn_lock.proofs.Fresh.{same_numbers}
use Rattle.turn_lock.proofs.tests.written_by_eight.Goals as goal

pub close-requires-clause-each : goal.close-requires-clause-each
close-requires-clause-each g c κs within number small =
    let numbers = c.in_threads-passes-2.ensures.numbers ∙ c.in_ok-passes.ensures.numbers ∙ c.in_threads-passes.ensures.numbers in
    same_numbers c.in_ok-lock.passes.items c.in_threads-passes-2.result.items number numbers (c.in_ok-lock.ensures.all number small)
