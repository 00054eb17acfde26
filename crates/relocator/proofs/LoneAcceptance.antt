-- Where a layout that fits puts a PIE, its segments are the spans of a certificate.
use Rattle.std.proofs.Common.{◌≡◌, ℕ, ◌+◌, ◌^◌, ◌<◌, ◌≤◌, List, get_or, sym, ap, ◌∙◌, arith}
use Rattle.std.proofs.lemmas.List.Sums.{get_or-le-sum_by}
use Rattle.cairo_model.specs.Machine.Values.{number, place}
use Rattle.cairo_model.specs.Pie.Records.{segment_size, memory_of}
use Rattle.cairo_model.specs.Machine.FieldMemories.{FieldCell, cell_at}
use Rattle.cairo_model.specs.Pie.Layouts.{Fits, base_of, relocated}
use Rattle.cairo_model.specs.Pie.Relocation.{HasRelocated}
use Rattle.cairo_model.specs.Pie.Acceptance.{CheckedRecord, AcceptedWith, HoldsNumbers}
use Rattle.cairo_model.specs.Certificate.Acceptance.{SpanHolds}
use Rattle.relocator.specs.LoneCertificates.{stretch_of}
use Rattle.relocator.proofs.Apart.{no_wrap}

module _ (bases : List ℕ) (checked : CheckedRecord) (fits : Fits bases checked.pie.sizes) (accepted : AcceptedWith checked.pie checked.fact checked.states)
    (cells : List FieldCell) (has : HasRelocated bases (memory_of checked.pie.cells) (cell_at cells)) where
  low : (s : ℕ) → s < 7 → base_of bases s < 2 ^ 32
  low s lt = (fits.in_bounds s 0 (omega (arith, fits.one_each, accepted.rules.are_sizes.at_least))).1

  size_small : (s : ℕ) → s < 7 → segment_size checked.pie s ≤ 65536
  size_small s lt = omega (arith, accepted.rules.are_sizes.in_all, get_or-le-sum_by (λ (x : ℕ). x) checked.pie.sizes s 0 (omega (arith, accepted.rules.are_sizes.at_least)))

  -- the address of an offset up to its segment's size
  pub address_is : (s o : ℕ) → s < 7 → o ≤ segment_size checked.pie s → relocated bases (place s o) ≡ base_of bases s + o
  address_is s o lt le = no_wrap (base_of bases s) o (low s lt) (omega (arith, size_small s lt))

  pub start_is : (s : ℕ) → s < 7 → relocated bases (place s 0) ≡ base_of bases s
  start_is s lt = no_wrap (base_of bases s) 0 (low s lt) (omega arith) ∙ omega arith

  pub span_carried : (s : ℕ) (numbers : List ℕ) → s < 7 → HoldsNumbers checked.pie.cells s (segment_size checked.pie s) numbers → SpanHolds cells (stretch_of bases checked.pie.sizes s) numbers
  span_carried s numbers lt holds = record {
    count = omega (arith, holds.count);
    each = λ i inside.
        let near : i < segment_size checked.pie s = omega (arith, inside) in
        ap (cell_at cells) (sym (address_is s i lt (omega (arith, near)))) ∙ has (place s i) (number (get_or numbers i 0)) (holds.each i near);
  }
