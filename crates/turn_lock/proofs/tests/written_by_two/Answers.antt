use Rattle.turn_lock.proofs.Fresh.{same_numbers}
use Rattle.turn_lock.proofs.tests.written_by_two.Goals as goal

pub close-requires-clause-each : goal.close-requires-clause-each
close-requires-clause-each g c κs within number small = same_numbers c.in_ok-lock.passes.items c.in_threads-passes.result.items number c.in_threads-passes.ensures.numbers (c.in_ok-lock.ensures.all number small)
