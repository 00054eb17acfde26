use Rattle.std.proofs.Common.{◌<◌, length, map, ap, ◌∙◌, arith}
use Rattle.cairo_model.specs.Certificate.Records.{CertRecord}
use Rattle.cairo_model.specs.Views.Machine.{field_registers}
use Rattle.row_checker.proofs.Frames.{end_broken, end_kept}
use Rattle.row_checker.proofs.Walking.{as_many, last_in, viewed_in}
use Rattle.row_checker.proofs.frame.broken_end.Goals as goal

pub returns-clause-none : goal.returns-clause-none
returns-clause-none c =
    let same = ap (map field_registers) c.as_slice-states.ensures.value ∙ ap (λ (r : CertRecord). r.states) c.cert.view_is in
    let some : 0 < length c.as_slice-states.result.now = omega (arith, c.requires, as_many c.as_slice-states.result.now c.args.cert.now.states same) in
    let is_first = viewed_in c.as_slice-states.result.now c.args.cert.now.states 0 c.index-states-0.result same some c.index-states-0.is in
    let is_last = last_in c.as_slice-states.result.now c.args.cert.now.states c.index-states-states.result same some c.index-states-states.is in
    end_kept c.args.cert.now (field_registers c.index-states-0.result) is_first (field_registers c.index-states-states.result) is_last c.broken_by_last.result c.broken_by_last.ensures.none

pub returns-clause-some : goal.returns-clause-some
returns-clause-some c =
    let same = ap (map field_registers) c.as_slice-states.ensures.value ∙ ap (λ (r : CertRecord). r.states) c.cert.view_is in
    let some : 0 < length c.as_slice-states.result.now = omega (arith, c.requires, as_many c.as_slice-states.result.now c.args.cert.now.states same) in
    let is_first = viewed_in c.as_slice-states.result.now c.args.cert.now.states 0 c.index-states-0.result same some c.index-states-0.is in
    let is_last = last_in c.as_slice-states.result.now c.args.cert.now.states c.index-states-states.result same some c.index-states-states.is in
    end_broken c.args.cert.now (field_registers c.index-states-0.result) is_first (field_registers c.index-states-states.result) is_last c.broken_by_last.result c.broken_by_last.ensures.some
