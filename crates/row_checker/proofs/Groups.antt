-- Twenty cells in a row, and the instance that they may be.
use Rattle.std.proofs.Common.{◌≡◌, ℕ, ◌+◌, ◌<◌, List, length, slice_index, slice_set, Some, inl, inr, sym, ap, subst, ◌∙◌, arith}
use Rattle.std.proofs.lemmas.Bool.{cases_lt}
use Rattle.std.proofs.lemmas.Grind.{get_or-set_at}
use Rattle.std.proofs.lemmas.List.{ext_get_or, get_or-set_other}
use Rattle.builtin_hash.specs.Instances.{IsInstance}
use Rattle.cairo_model.specs.Machine.FieldMemories.{FieldCell, cell_at}
use Rattle.cairo_model.proofs.Outcomes.{some_is}
use Rattle.row_checker.specs.Working.Instances.{InstanceStands}

-- one more of the numbers that a list has room for
pub stand_more : (cells : List FieldCell) (start : ℕ) (numbers : List ℕ) (j n : ℕ) → j < length numbers
    → ((k : ℕ) → k < j → cell_at cells (start + k) ≡ Some (slice_index numbers k))
    → cell_at cells (start + j) ≡ Some n
    → (k : ℕ) → k < j + 1 → cell_at cells (start + k) ≡ Some (slice_index (slice_set numbers j n) k)
stand_more cells start numbers j n inside before here k lt =
    elim (cases_lt k j) [
      | inl earlier ↦ before k earlier ∙ ap Some (sym (get_or-set_other numbers j k n 0 (λ same. omega (arith, earlier, same))))
      | inr past ↦
          let same : k ≡ j = omega (arith, lt, past) in
          ap (λ (i : ℕ). cell_at cells (start + i)) same ∙ here ∙ ap Some (sym (get_or-set_at numbers j k n 0 same inside))
    ]

-- twenty numbers that stand are those of the instance
pub are_instance : (cells : List FieldCell) (start : ℕ) (numbers : List ℕ) → length numbers ≡ 20
    → ((k : ℕ) → k < 20 → cell_at cells (start + k) ≡ Some (slice_index numbers k))
    → InstanceStands (cell_at cells) start → IsInstance numbers
are_instance cells start numbers count stand has =
    let same : has.numbers ≡ numbers = ext_get_or 0 has.numbers numbers (has.is_instance.twenty ∙ sym count) (λ k lt.
    let small : k < 20 = omega (arith, lt, has.is_instance.twenty) in
    some_is (slice_index has.numbers k) (slice_index numbers k) (sym (has.holds k small) ∙ stand k small)) in
    subst IsInstance same has.is_instance
