use Rattle.std.proofs.Common.{refl, rules, below_more}
use Rattle.std.proofs.lemmas.Bool.{iff_false, false≢true}
use Rattle.cairo_model.proofs.layout.is_apart.Goals as goal

pub returns-then-not-is_apart_from : goal.returns-then-not-is_apart_from
returns-then-not-is_apart_from c =
    (λ never. absurd (false≢true never), λ all. absurd (iff_false c.is_apart_from.ensures c.if-not-is_apart_from.true (all c.loop-other.other (search rules))))

pub loop-other-preserved : goal.loop-other-preserved
loop-other-preserved c = below_more _ _ c.loop-other.invariant (c.is_apart_from.ensures.0 c.if-not-is_apart_from.false)

pub returns : goal.returns
returns c = (λ always t lt. c.loop-other.invariant t (search rules), λ all. refl)
