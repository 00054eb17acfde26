use Rattle.std.proofs.Common.{List, All, subst}
use Rattle.cairo_model.specs.Certificate.Records.{MarkRecord, CertRecord, IsMark, AreRegisters, IsCertificate}
use Rattle.cairo_model.specs.Machine.FieldMemories.{FieldCell, IsCell}
use Rattle.cairo_model.specs.Views.Machine.{field_registers}
use Rattle.cairo_model.specs.declared.state.FieldState.{FieldState}
use Rattle.std.specs.Prelude.{map}
use Rattle.cairo_model.proofs.kept.is_certificate.Goals as goal

pub returns : goal.returns
returns c =
    let P : CertRecord → Type 0 = λ r. IsCertificate r in
    let M : List MarkRecord → Type 0 = λ ms. All IsMark ms in
    let C : List FieldCell → Type 0 = λ cs. All IsCell cs in
    let S : List FieldState → Type 0 = λ ss. All AreRegisters (map field_registers ss) in
    subst P c.cert.view_is (record {
      has_spelling = c.cert.invariant;
      output = c.span_kept.ensures;
      range = c.span_kept-2.ensures;
      hash = c.span_kept-3.ensures;
      tasks = subst M c.as_slice.ensures.value c.marks_kept.ensures;
      cells = subst C c.as_slice-2.ensures.cells c.cells_kept.ensures;
      rise = c.as_slice-2.ensures.rise;
      states = subst S c.as_slice-3.ensures.value c.states_kept.ensures;
    })
