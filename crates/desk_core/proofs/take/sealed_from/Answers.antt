use Rattle.std.proofs.Common.{sym, ◌∙◌}
use Rattle.desk_core.proofs.NextSealed.{ends_here, goes_on, stops_here}
use Rattle.desk_core.proofs.take.sealed_from.Goals as goal

pub returns-then-is_sealed : goal.returns-then-is_sealed
returns-then-is_sealed c =
    stops_here c.args.batches.now c.loop-n.n c.index-batches-n.result
    (sym c.is_sealed.ensures ∙ c.if-is_sealed.true) c.loop-n.invariant

pub loop-n-preserved : goal.loop-n-preserved
loop-n-preserved c =
    goes_on c.args.batches.now c.loop-n.n c.index-batches-n.result c.loop-n-test.true
    (sym c.is_sealed.ensures ∙ c.if-is_sealed.false) c.loop-n.invariant

pub returns : goal.returns
returns c = ends_here c.args.batches.now c.loop-n.n c.loop-n-test.false c.loop-n.invariant
