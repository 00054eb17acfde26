use Rattle.std.proofs.Common.{rules, ◌≡◌, ◌≤◌, ◌<◌, refl, subst}
use Rattle.cairo_model.specs.Pie.Records.{segment_size}
use Rattle.cairo_model.specs.Refusals.ReplayRefusals.{IsFirstReplayCause, bad_main}
use Rattle.cairo_model.specs.Views.ReplayRefusals.{replay_cause}
use Rattle.cairo_model.specs.declared.replay_refusal.ReplayRefusal.{ReplayRefusal}
use Rattle.cairo_model.specs.declared.replay_refusal.ReplayRefusal.TheVariants.{BadMain}
use Rattle.pie_replay.proofs.FullSegments.{has_each}
use Rattle.pie_replay.proofs.Stages.{is_first, passes_none, passes_on}
use Rattle.pie_replay.proofs.acceptance.program_of.Goals as goal

pub returns-then-pie-from-clause-refused : goal.returns-then-pie-from-clause-refused
returns-then-pie-from-clause-refused c = λ e same.
    let pie = c.args.pie.now in
    let outside : segment_size pie 0 ≤ pie.main = search rules in
    let first = is_first pie (bad_main pie.main) (refl, outside) (passes_on pie 20 (passes_none pie) (has_each pie.cells 0 _ _ c.in-Ok.ensures.full)) in
    let is : BadMain pie.main ≡ e = search rules in
    subst (λ (r : ReplayRefusal). IsFirstReplayCause pie (replay_cause r)) is first

pub returns-else-pie-from-clause-passes : goal.returns-else-pie-from-clause-passes
returns-else-pie-from-clause-passes c =
    let pie = c.args.pie.now in
    let inside : pie.main < segment_size pie 0 = search rules in
    passes_on pie 21 (passes_on pie 20 (passes_none pie) (has_each pie.cells 0 _ _ c.in-Ok.ensures.full)) inside
