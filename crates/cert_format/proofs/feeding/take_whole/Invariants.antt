use Rattle.std.proofs.Common.{◌≡◌, length}
use Rattle.cert_format.specs.Working.DraftViews.{partial}
use Rattle.cert_format.specs.Working.Passing.{Goes}
use Rattle.cert_format.specs.Working.Taking.{size_of}
use Rattle.cert_format.proofs.feeding.take_whole.Given as goal

abbrev pub invariant-loop-size : goal.invariant-loop-size
invariant-loop-size l = record {
  sized : l.size ≡ size_of l.partial.stage;
  goes : Goes (partial l.fn.partial) l.bytes (partial l.partial) l.rest;
}

abbrev pub decreases-loop-size : goal.decreases-loop-size
decreases-loop-size l = length l.rest
