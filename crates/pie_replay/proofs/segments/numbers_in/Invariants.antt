use Rattle.std.proofs.Common.{map}
use Rattle.cairo_model.specs.Pie.Acceptance.{HoldsNumbers}
use Rattle.pie_replay.proofs.segments.numbers_in.Given as goal

abbrev pub invariant-loop-offset : goal.invariant-loop-offset
invariant-loop-offset l = HoldsNumbers l.pie.cells l.segment l.offset (map (λ f. f.number) l.numbers.items)
