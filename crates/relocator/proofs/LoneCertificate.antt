-- The machine accepts the certificate of a PIE alone.
use Rattle.std.proofs.Common.{ℕ, List, Some, refl, sym, ap, subst, ◌∙◌, arith, lit<}
use Rattle.cairo_model.specs.Machine.Values.{Datum}
use Rattle.cairo_model.specs.Machine.Steps.{Registers, field_arithmetic, RunsTo}
use Rattle.cairo_model.specs.Pie.Records.{PieRecord, KeepsRules, segment_size}
use Rattle.cairo_model.specs.Machine.FieldMemories.{cell_at}
use Rattle.cairo_model.specs.Pie.Layouts.{Fits, lone_bases, relocated, relocated_state}
use Rattle.cairo_model.specs.Pie.Acceptance.{CheckedRecord, AcceptedWith, start_of}
use Rattle.cairo_model.specs.Certificate.Records.{CertRecord, SpanRecord}
use Rattle.cairo_model.specs.Certificate.Acceptance.{MachineAccepts, SpanHolds}
use Rattle.relocator.specs.Relocations.{KeepsArithmetic, RunsOverField}
use Rattle.relocator.specs.LoneCertificates.{IsLoneCertificate}
use Rattle.relocator.proofs.Convention as convention
use Rattle.relocator.proofs.LoneAcceptance as lone

module _ (arithmetic : (bases : List ℕ) → KeepsArithmetic bases)
    (anywhere : (bases : List ℕ) (pie : PieRecord) → Fits bases pie.sizes → KeepsRules pie → RunsOverField bases pie.cells)
    (fit : (pie : PieRecord) → KeepsRules pie → Fits (lone_bases pie.sizes) pie.sizes) where
  pub holds : (checked : CheckedRecord) (cert : CertRecord) → AcceptedWith checked.pie checked.fact checked.states → IsLoneCertificate checked cert
      → MachineAccepts cert
  holds checked cert accepted is =
      let bases = lone_bases checked.pie.sizes in
      let fits = fit checked.pie accepted.rules in
      let has = is.cells.has_each in
      let home = accepted.isolated.home in
      let frame = convention.frame_carried checked accepted bases fits.one_each (arithmetic bases) (cell_at cert.cells) has in
      let stops = convention.stop_carried checked accepted bases fits.one_each (arithmetic bases) (cell_at cert.cells) has in
      let begins = lone.start_is bases checked fits accepted cert.cells has in
      let ends = lone.address_is bases checked fits accepted cert.cells has in
      record {
        first = relocated_state bases (start_of checked.pie);
        last = relocated_state bases accepted.isolated.last;
        runs = subst (λ (ss : List (Registers ℕ)). RunsTo field_arithmetic (cell_at cert.cells) (relocated_state bases (start_of checked.pie)) ss (relocated_state bases accepted.isolated.last)) (sym is.states)
            (anywhere bases checked.pie fits accepted.rules (cell_at cert.cells) has (start_of checked.pie) accepted.isolated.last checked.states accepted.isolated.runs);
        starts = refl;
        output_start = frame 0 5 (lit< tt) (lit< tt) refl ∙ ap Some (begins 2 (lit< tt) ∙ ap (λ (s : SpanRecord). s.start) (sym is.output));
        range_start = frame 1 4 (lit< tt) (lit< tt) refl ∙ ap Some (begins 3 (lit< tt) ∙ ap (λ (s : SpanRecord). s.start) (sym is.range));
        hash_start = frame 2 3 (lit< tt) (lit< tt) refl ∙ ap Some (begins 4 (lit< tt) ∙ ap (λ (s : SpanRecord). s.start) (sym is.hash));
        restored = frame 3 2 (lit< tt) (lit< tt) refl ∙ ap (λ (d : Datum). Some (relocated bases d)) (sym home.restored);
        returned = frame 4 1 (lit< tt) (lit< tt) refl ∙ ap (λ (d : Datum). Some (relocated bases d)) (sym home.returned);
        output_stop = stops 0 (lit< tt) (lit< tt) ∙ ap Some (ends 2 (segment_size checked.pie 2) (lit< tt) (omega arith) ∙ ap (λ (s : SpanRecord). s.stop) (sym is.output));
        range_stop = stops 1 (lit< tt) (lit< tt) ∙ ap Some (ends 3 (segment_size checked.pie 3) (lit< tt) (omega arith) ∙ ap (λ (s : SpanRecord). s.stop) (sym is.range));
        hash_stop = stops 2 (lit< tt) (lit< tt) ∙ ap Some (ends 4 (segment_size checked.pie 4) (lit< tt) (omega arith) ∙ ap (λ (s : SpanRecord). s.stop) (sym is.hash));
        outputs = checked.fact.outputs;
        has_outputs = subst (λ (s : SpanRecord). SpanHolds cert.cells s checked.fact.outputs) (sym is.output)
            (lone.span_carried bases checked fits accepted cert.cells has 2 checked.fact.outputs (lit< tt) accepted.shows.has_outputs);
        range_cells = accepted.range.numbers;
        has_range_cells = subst (λ (s : SpanRecord). SpanHolds cert.cells s accepted.range.numbers) (sym is.range)
            (lone.span_carried bases checked fits accepted cert.cells has 3 accepted.range.numbers (lit< tt) accepted.range.holds);
        are_range_cells = accepted.range.are_range_cells;
        instances = accepted.hash.numbers;
        has_instances = subst (λ (s : SpanRecord). SpanHolds cert.cells s accepted.hash.numbers) (sym is.hash)
            (lone.span_carried bases checked fits accepted cert.cells has 4 accepted.hash.numbers (lit< tt) accepted.hash.holds);
        are_instances = accepted.hash.are_instances;
      }
