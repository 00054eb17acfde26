use Rattle.std.proofs.Common.{false}
use Rattle.batch_workers.specs.Working.SharedRounds.{PassBack}
use Rattle.batch_workers.proofs.shared_rounds.given_back.Given as goal

abbrev pub invariant-loop : goal.invariant-loop
invariant-loop g l = PassBack l.batch l.fn.pass l.pass false
