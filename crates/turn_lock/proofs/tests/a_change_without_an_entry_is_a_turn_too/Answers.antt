use Rattle.std.proofs.Common.{◌∙◌}
use Rattle.turn_lock.proofs.Fresh.{same_numbers}
use Rattle.turn_lock.proofs.tests.a_change_without_an_entry_is_a_turn_too.Goals as goal

pub close-diary-requires-clause-each : goal.close-diary-requires-clause-each
close-diary-requires-clause-each g c κs number small =
    let numbers = c.in_ok-after.ensures.numbers ∙ c.in_threads-passes.ensures.numbers ∙ c.in_ok-before.ensures.numbers in
    same_numbers c.in_ok-lock.passes.items c.in_ok-after.passes.items number numbers (c.in_ok-lock.ensures.all number small)
