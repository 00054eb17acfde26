use Rattle.std.proofs.Common.{◌≡◌, drop}
use Rattle.pie_format.specs.Working.Reading.{all_below}
use Rattle.pie_format.proofs.metadata_rules.all_below.Given as goal

abbrev pub invariant-loop-size : goal.invariant-loop-size
invariant-loop-size l = all_below l.limit (drop l.size-index l.sizes) ≡ all_below l.limit l.sizes
