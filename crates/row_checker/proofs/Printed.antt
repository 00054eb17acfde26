-- What a certificate prints at an index, and from what is printed at each index to the whole span.
use Rattle.std.proofs.Common.{◌≡◌, ℕ, ◌+◌, ◌-◌, nat_lt, true, List, length, Some, inl, inr, refl, sym, ap, ◌∙◌, arith}
use Rattle.std.proofs.lemmas.Bool.{cases_lt, lt-ltb, ltb-true}
use Rattle.std.proofs.lemmas.Option.{get_or_from_slice_get, slice_get_within}
use Rattle.cairo_model.specs.Certificate.Acceptance.{SpanHolds}
use Rattle.cairo_model.specs.Certificate.Records.{CertRecord}
use Rattle.cairo_model.specs.Machine.FieldMemories.{cell_at}
use Rattle.cairo_model.proofs.Outcomes.{then_gives}
use Rattle.boot_program.specs.Faults.Causes.{IsOutputIndex, PrintsAt, printed_at}
use Rattle.boot_program.specs.Faults.Rules.{IsInSpan, IsThere}

module _ (cert : CertRecord) where
  pub printed_inside : (k : ℕ) → IsInSpan cert.output k → printed_at cert k ≡ cell_at cert.cells (cert.output.start + k)
  printed_inside k inside = let passes = lt-ltb (cert.output.start + k) cert.output.stop inside in rw passes refl

  -- a number that is printed stands in the span
  pub printed_gives : (k n : ℕ) → printed_at cert k ≡ Some n → IsInSpan cert.output k × (cell_at cert.cells (cert.output.start + k) ≡ Some n)
  printed_gives k n is =
      then_gives (nat_lt (cert.output.start + k) cert.output.stop) (cell_at cert.cells (cert.output.start + k)) n is
      (λ passes there. (ltb-true (cert.output.start + k) cert.output.stop passes, there))

  pub printed_there : (numbers : List ℕ) (k : ℕ) → PrintsAt cert numbers k → IsThere (cell_at cert.cells (cert.output.start + k))
  printed_there numbers k prints = (prints.0, (printed_gives k prints.0 prints.1.0).1)

  -- where the numbers are printed at each index, the span holds them
  module _ (numbers : List ℕ) (each : (k : ℕ) → IsOutputIndex cert numbers k → PrintsAt cert numbers k) where
    as_long : length numbers ≡ cert.output.stop - cert.output.start
    as_long = elim (cases_lt (length numbers) (cert.output.stop - cert.output.start)) [
      | inl short ↦
          let here = each (length numbers) (inl (omega (arith, short))) in
          absurd (let lt = slice_get_within numbers (length numbers) here.0 here.1.1 in omega (arith, lt))
      | inr not_short ↦ elim (cases_lt (cert.output.stop - cert.output.start) (length numbers)) [
        | inl long ↦
            let here = each (cert.output.stop - cert.output.start) (inr long) in
            absurd (let inside = (printed_gives (cert.output.stop - cert.output.start) here.0 here.1.0).0 in omega (arith, inside))
        | inr not_long ↦ omega (arith, not_short, not_long)
      ]
    ]

    pub span_prints : SpanHolds cert.cells cert.output numbers
    span_prints = record {
      count = as_long;
      each = λ k lt.
          let here = each k (inl (omega (arith, lt))) in
          (printed_gives k here.0 here.1.0).1 ∙ ap Some (sym (get_or_from_slice_get numbers k here.0 0 here.1.1));
    }
