-- What a look-up in the memory of a PIE finds.
use Rattle.std.proofs.Common.{◌≡◌, ℕ, ◌<◌, ◌==◌, ◌&&◌, true, false, List, length, get_or, Some, option_map, refl, ap, ap₂, subst, arith}
use Rattle.std.specs.List.{find, Contains}
use Rattle.std.proofs.lemmas.Bool.Decides.{nat_tests}
use Rattle.std.proofs.lemmas.List.Elements.{All-contains, All-get_or}
use Rattle.std.proofs.lemmas.List.Sums.{get_or-le-sum_by}
use Rattle.cairo_model.specs.Machine.Values.{Datum, number, place}
use Rattle.cairo_model.specs.Pie.Records.{MemoryCell, PieRecord, AreSizes, IsCellOf, IsValueIn, KeepsRules, memory_of, place_number, stands_at}
use Rattle.cairo_model.proofs.Chains.{both_left, both_right}
use Rattle.cairo_model.proofs.Searching.{TellsKey}
use Rattle.cairo_model.proofs.NumberTests.{eq_is}
use Rattle.cairo_model.specs.Pie.Staying.{AllValuesIn}
use Rattle.cairo_model.proofs.Finding.{find_gives, found_in, option_map_gives}

-- the cell that a look-up found
pub record IsCellFor (cells : List MemoryCell) (a v : Datum) : Type 0 where
  pub cell : MemoryCell
  pub stands : Contains cells cell
  pub address : place cell.segment cell.offset ≡ a
  pub value : cell.value ≡ v

place_is : (s o : ℕ) (c : MemoryCell) → stands_at s o c ≡ true → place c.segment c.offset ≡ place s o
place_is s o c e = ap₂ place (eq_is c.segment s (both_left _ _ e)) (eq_is c.offset o (both_right (c.segment == s) _ e))

pub memory_gives : (cells : List MemoryCell) (a v : Datum) → memory_of cells a ≡ Some v → IsCellFor cells a v
memory_gives cells (number n) v e = absurd (cc)
memory_gives cells (place s o) v e =
    option_map_gives (λ (c : MemoryCell). c.value) (find (stands_at s o) cells) v e (λ c is value.
    let found = find_gives (stands_at s o) cells c is in
    record { cell = c; stands = found.stands; address = place_is s o c found.passes; value = value })

-- the values of a PIE's memory lie in its segments
pub values_in : (pie : PieRecord) → KeepsRules pie → AllValuesIn (length pie.sizes) (memory_of pie.cells)
values_in pie rules a v e =
    let found = memory_gives pie.cells a v e in
    subst (IsValueIn (length pie.sizes)) found.value (All-contains (IsCellOf pie.sizes) pie.cells found.cell rules.are_cells found.stands).has_value

pub offset_below : (sizes : List ℕ) → AreSizes sizes → (c : MemoryCell) → IsCellOf sizes c → c.offset < 65536
offset_below sizes are c is = omega (arith, is.in_size, are.in_all, get_or-le-sum_by (λ (x : ℕ). x) sizes c.segment 0 is.in_segments)

abbrev pub key_of : MemoryCell → ℕ
key_of c = place_number c.segment c.offset

one_segment : (s o t q : ℕ) → o < 65536 → q < 65536 → place_number s o ≡ place_number t q → s ≡ t
one_segment s o t q small less e = omega arith

one_offset : (s o t q : ℕ) → o < 65536 → q < 65536 → place_number s o ≡ place_number t q → o ≡ q
one_offset s o t q small less e = omega arith

other_place : (a b s o : ℕ) → (place_number a b ≡ place_number s o → ⊥) → (a == s && b == o) ≡ false
other_place a b s o other = grind (arith, nat_tests, other)

-- the test for a place tells its number
place_tells : (pie : PieRecord) → KeepsRules pie → (s o : ℕ) → o < 65536 → TellsKey key_of (stands_at s o) (place_number s o) pie.cells
place_tells pie rules s o small = record {
  here = λ i d lt same.
      let c = get_or pie.cells i d in
      let near = offset_below pie.sizes rules.are_sizes c (All-get_or (IsCellOf pie.sizes) pie.cells i d lt rules.are_cells) in
      let segment : c.segment ≡ s = one_segment c.segment c.offset s o near small same in
      let offset : c.offset ≡ o = one_offset c.segment c.offset s o near small same in
      grind (arith, nat_tests);
  elsewhere = λ i d lt other. let c = get_or pie.cells i d in other_place c.segment c.offset s o other;
}

-- each cell of a PIE is found at its place
pub memory_has : (pie : PieRecord) → KeepsRules pie → (c : MemoryCell) → Contains pie.cells c → memory_of pie.cells (place c.segment c.offset) ≡ Some c.value
memory_has pie rules c stands =
    let near = offset_below pie.sizes rules.are_sizes c (All-contains (IsCellOf pie.sizes) pie.cells c rules.are_cells stands) in
    ap (option_map (λ (x : MemoryCell). x.value))
    (found_in key_of (stands_at c.segment c.offset) (key_of c) pie.cells (place_tells pie rules c.segment c.offset near) rules.rise c stands refl)
