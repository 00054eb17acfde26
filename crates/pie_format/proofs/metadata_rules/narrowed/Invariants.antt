use Rattle.std.proofs.Common.{◌≡◌, take}
use Rattle.pie_format.proofs.metadata_rules.narrowed.Given as goal

abbrev pub invariant-loop-size : goal.invariant-loop-size
invariant-loop-size l = l.narrow.items ≡ take l.size-index l.sizes
