use Rattle.std.proofs.Common.{refl, rules, below_more}
use Rattle.std.proofs.lemmas.Bool.{iff_false, false≢true}
use Rattle.cairo_model.proofs.layout.are_apart.Goals as goal

pub returns-then-not-is_apart : goal.returns-then-not-is_apart
returns-then-not-is_apart c =
    (λ never. absurd (false≢true never), λ all. absurd (iff_false c.is_apart.ensures c.if-not-is_apart.true (all c.loop-segment.segment (search rules))))

pub loop-segment-preserved : goal.loop-segment-preserved
loop-segment-preserved c = below_more _ _ c.loop-segment.invariant (c.is_apart.ensures.0 c.if-not-is_apart.false)

pub returns : goal.returns
returns c = (λ always t lt. c.loop-segment.invariant t (search rules), λ all. refl)
