use Rattle.std.proofs.Common.{◌<◌, length, map, rules, ap, ◌∙◌}
use Rattle.cairo_model.specs.Certificate.Records.{CertRecord}
use Rattle.cairo_model.specs.Views.Machine.{field_registers}
use Rattle.row_checker.proofs.Frames.{start_broken, start_kept}
use Rattle.row_checker.proofs.Walking.{viewed_in}
use Rattle.row_checker.proofs.frame.broken_start.Goals as goal

pub returns-clause-none : goal.returns-clause-none
returns-clause-none c =
    let same = ap (map field_registers) c.as_slice-states.ensures.value ∙ ap (λ (r : CertRecord). r.states) c.cert.view_is in
    let some : 0 < length c.as_slice-states.result.now = search rules in
    let is_first = viewed_in c.as_slice-states.result.now c.args.cert.now.states 0 c.index-states-0.result same some c.index-states-0.is in
    start_kept c.args.cert.now (field_registers c.index-states-0.result) is_first c.broken_by_first.result c.broken_by_first.ensures.none

pub returns-clause-some : goal.returns-clause-some
returns-clause-some c =
    let same = ap (map field_registers) c.as_slice-states.ensures.value ∙ ap (λ (r : CertRecord). r.states) c.cert.view_is in
    let some : 0 < length c.as_slice-states.result.now = search rules in
    let is_first = viewed_in c.as_slice-states.result.now c.args.cert.now.states 0 c.index-states-0.result same some c.index-states-0.is in
    start_broken c.args.cert.now (field_registers c.index-states-0.result) is_first c.broken_by_first.result c.broken_by_first.ensures.some
