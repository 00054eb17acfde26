-- The fact of a PIE is the one that is computed.
use Rattle.std.proofs.Common.{◌≡◌, ℕ, List, sym, ap, ◌∙◌, subst, arith}
use Rattle.std.proofs.lemmas.Grind.{same_number_lists}
use Rattle.std.proofs.lemmas.List.FromFn.{length-map-range_with_len, get_or-map-range_with_len}
use Rattle.builtin_hash.specs.Programs.{program_hash_of}
use Rattle.cairo_model.specs.Pie.Acceptance.{FactRecord, HoldsNumbers, IsFactOf}
use Rattle.cairo_model.specs.Segments.{builtin_mask, program_segment, output_segment}
use Rattle.cairo_model.specs.Pie.Facts.{number_or_zero, numbers_in, fact_of, IsFullOfNumbers, FactFormsAgree}
use Rattle.cairo_model.specs.Pie.Records.{PieRecord, segment_size, value_at}

module _ (pie : PieRecord) where
  numbers_are : (segment : ℕ) (numbers : List ℕ) → HoldsNumbers pie.cells segment (segment_size pie segment) numbers → numbers ≡ numbers_in pie segment
  numbers_are segment numbers h =
      let size : ℕ = segment_size pie segment in
      let f : ℕ → ℕ = λ offset. number_or_zero (value_at pie.cells segment offset) in
      same_number_lists numbers (numbers_in pie segment) (h.count ∙ sym (length-map-range_with_len f 0 size))
      (λ k lt.
      sym (get_or-map-range_with_len f 0 size k k 0 (omega (arith, h.count)) (omega arith) ∙ ap number_or_zero (h.each k (omega (arith, h.count)))))

  full : (segment : ℕ) (numbers : List ℕ) → HoldsNumbers pie.cells segment (segment_size pie segment) numbers → IsFullOfNumbers pie segment
  full segment numbers h = subst (HoldsNumbers pie.cells segment (segment_size pie segment)) (numbers_are segment numbers h) h

  computed : (fact : FactRecord) → IsFactOf pie fact → fact ≡ fact_of pie
  computed fact h =
      let program : fact.program ≡ program_hash_of pie.main builtin_mask (numbers_in pie program_segment) = h.is_program ∙ ap (program_hash_of pie.main builtin_mask) (numbers_are program_segment h.code h.has_code) in
      let outputs = numbers_are output_segment fact.outputs h.has_outputs in
      λ i. record { program = program i; outputs = outputs i }

  pub forms_agree : (fact : FactRecord) → FactFormsAgree pie fact
  forms_agree fact = (
    λ h. (full program_segment h.code h.has_code, (full output_segment fact.outputs h.has_outputs, computed fact h)),
    λ h. record {
      code = numbers_in pie program_segment;
      has_code = h.0;
      is_program = ap (λ (f : FactRecord). f.program) h.1.1;
      has_outputs = subst (HoldsNumbers pie.cells output_segment (segment_size pie output_segment)) (sym (ap (λ (f : FactRecord). f.outputs) h.1.1)) h.1.0;
    },
  )
