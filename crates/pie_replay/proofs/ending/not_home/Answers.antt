use Rattle.std.proofs.Common.{◌∙◌, refl, sym}
use Rattle.std.proofs.lemmas.Bool.{iff_false}
use Rattle.cairo_model.specs.Refusals.ReplayRefusals.{wrong_frame, stop_pointer}
use Rattle.cairo_model.specs.Views.Machine.{registers}
use Rattle.pie_replay.proofs.Stages.{is_first, passes_on}
use Rattle.pie_replay.proofs.ending.not_home.Goals as goal

pub returns-then-not-is_value-2-clause-some : goal.returns-then-not-is_value-2-clause-some
returns-then-not-is_value-2-clause-some c =
    let pie = c.args.pie.now in
    let last = registers c.args.last.now in
    let ends = c.requires.ends in
    let returned = c.is_value.ensures.0 c.if-not-is_value.false ∙ c.place_value.ensures in
    is_first pie (wrong_frame last.fp) (last, (ends, (refl, λ same. iff_false c.is_value-2.ensures c.if-not-is_value-2.true (same ∙ sym c.place_value-2.ensures))))
    (passes_on pie 27 c.requires.passed (last, (ends, returned)))

pub returns-in-Some-clause-some : goal.returns-in-Some-clause-some
returns-in-Some-clause-some c =
    let pie = c.args.pie.now in
    let last = registers c.args.last.now in
    let ends = c.requires.ends in
    let returned = c.is_value.ensures.0 c.if-not-is_value.false ∙ c.place_value.ensures in
    let restored = c.is_value-2.ensures.0 c.if-not-is_value-2.false ∙ c.place_value-2.ensures in
    is_first pie (stop_pointer c.in-Some.i) (last, (ends, c.in-Some.ensures.some))
    (passes_on pie 28 (passes_on pie 27 c.requires.passed (last, (ends, returned))) (last, (ends, restored)))
