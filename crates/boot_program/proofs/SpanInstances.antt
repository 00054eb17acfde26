-- The whole instances of a hash span, one after the other.
use Rattle.std.proofs.Common.{◌≡◌, ℕ, zero, suc, ◌+◌, ◌*◌, ◌-◌, ◌<◌, List, length, take, drop, Some, sym, ap, subst, ◌∙◌, arith, get_or-take, get_or-drop}
use Rattle.goldi_field.specs.Numbers.{prime}
use Rattle.cairo_model.specs.Pie.BuiltinCells.{AreInstances}
use Rattle.cairo_model.specs.Certificate.Records.{SpanRecord}
use Rattle.cairo_model.specs.Machine.FieldMemories.{FieldCell, cell_at}
use Rattle.cairo_model.specs.Certificate.Acceptance.{SpanHolds}
use Rattle.cairo_model.specs.Machine.Addresses.{up}
use Rattle.boot_program.specs.Instances.{InstanceAt, InstancesAt}

module _ (cells : List FieldCell) (span : SpanRecord) (numbers : List ℕ) (holds : SpanHolds cells span numbers) (are : AreInstances numbers) (fits : span.stop < prime) where
  pub instance_in : (k : ℕ) → 20 * k < length numbers → InstanceAt (cell_at cells) (span.start + 20 * k)
  instance_in k lt = record {
    cells = take 20 (drop (20 * k) numbers);
    is = are.each k lt;
    there = λ i inside.
        let count = holds.count in
        let whole = are.whole in
        let below : 20 * k + i < length numbers = omega (arith, whole, lt, inside) in
        let near : 20 * k + i < span.stop - span.start = omega (arith, below, count) in
        let place : up (span.start + 20 * k) i ≡ span.start + (20 * k + i) = omega (arith, near, fits) in
        ap (cell_at cells) place ∙ holds.each (20 * k + i) near
        ∙ ap Some (sym (get_or-take 20 (drop (20 * k) numbers) i 0 inside ∙ get_or-drop (20 * k) numbers i 0));
  }

  pub instances_in : (more k : ℕ) → 20 * (k + more) < length numbers → InstancesAt (cell_at cells) more (span.start + 20 * k)
  unfolding InstancesAt
  instances_in zero k lt = instance_in k (omega (arith, lt))
  instances_in (suc more) k lt =
      let count = holds.count in
      let next : span.start + 20 * (k + 1) ≡ up (span.start + 20 * k) 20 = omega (arith, lt, count, fits) in
      (instance_in k (omega (arith, lt)), subst (λ (x : ℕ). InstancesAt (cell_at cells) more x) next (instances_in more (k + 1) (omega (arith, lt))))
