use Rattle.std.proofs.Common.{map, ap, ◌∙◌}
use Rattle.cairo_model.specs.Certificate.Records.{CertRecord, MarkRecord}
use Rattle.cairo_model.specs.Views.Machine.{field_registers}
use Rattle.row_checker.proofs.Showing.{says_stretch}
use Rattle.row_checker.proofs.tasks.has_states.Goals as goal

pub returns : goal.returns
returns c =
    says_stretch c.is_stretch.result _ _ _ _ _ _ _ _ _
    (ap (map field_registers) c.as_slice.ensures.value ∙ ap (λ (r : CertRecord). r.states) c.cert.view_is)
    (ap (λ (m : MarkRecord). m.row) c.mark.view_is)
    (ap (map (λ f. f.number)) c.as_slice-2.ensures.value ∙ ap (λ (m : MarkRecord). m.bases) c.mark.view_is)
    c.states.ensures.states
    c.states.ensures.accepted.isolated.count
    c.is_stretch.ensures
