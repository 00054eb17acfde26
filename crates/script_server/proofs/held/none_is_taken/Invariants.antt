use Rattle.std.specs.Prelude.{All, take}
use Rattle.script_server.specs.Working.FreeBatches.{IsFreeBatch}
use Rattle.script_server.proofs.held.none_is_taken.Given as goal

abbrev pub invariant-loop-batch : goal.invariant-loop-batch
invariant-loop-batch l = All IsFreeBatch (take l.batch-index l.batch-items)
