-- Segments that are full of numbers, of range cells, or of instances.
use Rattle.std.proofs.Common.{◌≡◌, ℕ, ◌+◌, ◌*◌, ◌<◌, List, [], ◌∷◌, ◌++◌, length, slice_index, slice_set, Some, inl, inr, sym, ap, subst, ◌∙◌, arith}
use Rattle.std.proofs.lemmas.Bool.{cases_lt}
use Rattle.std.proofs.lemmas.Grind.{get_or-set_at}
use Rattle.std.proofs.lemmas.List.{ext_get_or, get_or_default, get_or-set_other}
use Rattle.builtin_hash.specs.Instances.{IsInstance}
use Rattle.builtin_range.specs.Ranges.{IsRangeCell}
use Rattle.cairo_model.specs.Pie.Acceptance.{HoldsNumbers, HasRangeCells, HasInstances}
use Rattle.cairo_model.specs.Pie.Records.{MemoryCell, PieRecord, segment_size, value_at}
use Rattle.cairo_model.specs.Refusals.ReplayRefusals.{HasNumber, HasRangeCell, HasInstance, IsFirstGap}
use Rattle.cairo_model.specs.Machine.Values.{number}
use Rattle.cairo_model.proofs.Groups as groups

-- a number stands at an offset of a segment
abbrev Stands : List MemoryCell → ℕ → ℕ → ℕ → Type 0
Stands cells segment offset n = value_at cells segment offset ≡ Some (number n)

number_is : (a b : ℕ) → Some (number a) ≡ Some (number b) → a ≡ b
number_is a b e = cc

one_stands : (cells : List MemoryCell) (segment o a b : ℕ) → Stands cells segment o a → Stands cells segment o b → a ≡ b
one_stands cells segment o a b is other = number_is a b (sym is ∙ other)

-- what holds so many numbers has one at each offset
pub has_each : (cells : List MemoryCell) (segment size : ℕ) (numbers : List ℕ) → HoldsNumbers cells segment size numbers → (k : ℕ) → k < size → HasNumber cells segment k
has_each cells segment size numbers holds k lt = (slice_index numbers k, holds.each k lt)

-- where the numbers end before the segment does, and no number follows
pub first_gap : (pie : PieRecord) (segment offset : ℕ) (numbers : List ℕ) → offset < segment_size pie segment → HoldsNumbers pie.cells segment offset numbers → ¬ HasNumber pie.cells segment offset → IsFirstGap pie segment offset
first_gap pie segment offset numbers inside holds gap = record { inside = inside; fails = gap; before = has_each pie.cells segment offset numbers holds }

-- one more number at the end
pub holds_more : (cells : List MemoryCell) (segment size : ℕ) (numbers : List ℕ) (n : ℕ) → HoldsNumbers cells segment size numbers → value_at cells segment size ≡ Some (number n) → HoldsNumbers cells segment (size + 1) (numbers ++ n ∷ [])
holds_more cells segment size numbers n holds there =
    let more = groups.reads_more (Stands cells segment) (one_stands cells segment) size numbers n (record { count = holds.count; each = holds.each }) there in
    record { count = more.count; each = more.each }

-- the range segment, by its cells
pub has_range_cells : (pie : PieRecord) → ((k : ℕ) → k < segment_size pie 3 → HasRangeCell pie.cells k) → HasRangeCells pie
has_range_cells pie each =
    let found = groups.all_read (Stands pie.cells 3) (one_stands pie.cells 3) (segment_size pie 3) (λ k lt. let here = each k lt in (here.0, here.1.0)) in
    record {
      numbers = found.0;
      holds = record { count = found.1.count; each = found.1.each };
      are_range_cells = λ k d lt.
          let inside : k < segment_size pie 3 = omega (arith, found.1.count, lt) in
          let here = each k inside in
          let same : here.0 ≡ slice_index found.0 k = number_is here.0 (slice_index found.0 k) (sym here.1.0 ∙ found.1.each k inside) in
          subst IsRangeCell (same ∙ get_or_default found.0 k 0 d lt) here.1.1;
    }

pub range_cell_at : (pie : PieRecord) → HasRangeCells pie → (k : ℕ) → k < segment_size pie 3 → HasRangeCell pie.cells k
range_cell_at pie has k lt = (slice_index has.numbers k, (has.holds.each k lt, has.are_range_cells k 0 (omega (arith, lt, has.holds.count))))

-- the hash segment, by its instances
pub has_instances : (pie : PieRecord) → ((k : ℕ) → 20 * k < segment_size pie 4 → HasInstance pie k) → HasInstances pie
has_instances pie each =
    let found = groups.instances_read (Stands pie.cells 4) (one_stands pie.cells 4) (segment_size pie 4)
    (λ i lt. let here = each i lt in record { numbers = here.numbers; below = here.below; holds = here.holds; is_instance = here.is_instance }) in
    record {
      numbers = found.0;
      holds = record { count = found.1.0.count; each = found.1.0.each };
      are_instances = found.1.1;
    }

pub instance_at : (pie : PieRecord) → HasInstances pie → (k : ℕ) → 20 * k < segment_size pie 4 → HasInstance pie k
instance_at pie has k lt =
    let here = groups.group_read (Stands pie.cells 4) (one_stands pie.cells 4) (segment_size pie 4) has.numbers (record { count = has.holds.count; each = has.holds.each }) has.are_instances k lt in
    record { numbers = here.numbers; below = here.below; holds = here.holds; is_instance = here.is_instance }

-- one more of the numbers that a list has room for
pub stand_more : (cells : List MemoryCell) (segment start : ℕ) (numbers : List ℕ) (j n : ℕ) → j < length numbers
    → ((k : ℕ) → k < j → value_at cells segment (start + k) ≡ Some (number (slice_index numbers k)))
    → value_at cells segment (start + j) ≡ Some (number n)
    → (k : ℕ) → k < j + 1 → value_at cells segment (start + k) ≡ Some (number (slice_index (slice_set numbers j n) k))
stand_more cells segment start numbers j n inside before here k lt =
    elim (cases_lt k j) [
      | inl earlier ↦ before k earlier ∙ ap (λ (x : ℕ). Some (number x)) (sym (get_or-set_other numbers j k n 0 (λ same. omega (arith, earlier, same))))
      | inr past ↦
          let same : k ≡ j = omega (arith, lt, past) in
          ap (λ (i : ℕ). value_at cells segment (start + i)) same ∙ here ∙ ap (λ (x : ℕ). Some (number x)) (sym (get_or-set_at numbers j k n 0 same inside))
    ]

-- twenty numbers of the hash segment are those of its instance
pub are_instance : (pie : PieRecord) (i : ℕ) (numbers : List ℕ) → length numbers ≡ 20
    → ((k : ℕ) → k < 20 → value_at pie.cells 4 (20 * i + k) ≡ Some (number (slice_index numbers k)))
    → HasInstance pie i → IsInstance numbers
are_instance pie i numbers count stand has =
    let same : has.numbers ≡ numbers = ext_get_or 0 has.numbers numbers (has.is_instance.twenty ∙ sym count) (λ k lt.
    let small : k < 20 = omega (arith, lt, has.is_instance.twenty) in
    one_stands pie.cells 4 (20 * i + k) (slice_index has.numbers k) (slice_index numbers k) (has.holds k small) (stand k small)) in
    subst IsInstance same has.is_instance
