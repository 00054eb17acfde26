use Rattle.std.proofs.Common.{rules, ◌≡◌, ◌<◌, subst}
use Rattle.cairo_model.specs.Pie.Records.{segment_size}
use Rattle.cairo_model.specs.Refusals.ReplayRefusals.{IsFirstGap}
use Rattle.pie_replay.proofs.FullSegments.{first_gap}
use Rattle.pie_replay.proofs.segments.numbers_in.Goals as goal

pub returns-in-None-clause-gap : goal.returns-in-None-clause-gap
returns-in-None-clause-gap c = λ i same.
    let pie = c.args.pie.now in
    let inside : c.loop-offset.offset < segment_size pie c.args.segment = search rules in
    let is : c.loop-offset.offset ≡ i = cc in
    subst (IsFirstGap pie c.args.segment) is (first_gap pie c.args.segment c.loop-offset.offset _ inside c.loop-offset.invariant c.in-None.ensures.none)
