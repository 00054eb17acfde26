-- The PIE that is made of a sound memory keeps the rules of files, and has the code.
use Rattle.std.proofs.Common.{◌≡◌, ℕ, ◌<◌, ◌≤◌, ◌==◌, ◌&&◌, false, List, length, get_or, slice_index, Option, Some, option_map, refl, sym, ap, subst, ◌∙◌, inl, inr, arith}
use Rattle.std.specs.List.{All}
use Rattle.std.proofs.lemmas.Bool.{cases_lt}
use Rattle.std.proofs.lemmas.Bool.Decides.{nat_tests}
use Rattle.std.proofs.lemmas.List.{get_or_past}
use Rattle.cairo_model.proofs.Chains.{both}
use Rattle.cairo_model.proofs.NumberTests.{is_eq}
use Rattle.cairo_model.proofs.Searching.{find_some, key_is, keys_rise}
use Rattle.cairo_model.specs.Limits.{most_steps}
use Rattle.cairo_model.specs.Machine.Values.{Datum, number, place}
use Rattle.cairo_model.specs.Pie.Acceptance.{HoldsNumbers}
use Rattle.cairo_model.specs.Pie.Records.{MemoryCell, PieRecord, AreSizes, IsCellOf, IsValueIn, KeepsRules, Rise, memory_of, place_number, stands_at, value_at}
use Rattle.seg_memory.specs.Memory.{MemoryRecord, memory_in}
use Rattle.seg_runner.proofs.Sound.{IsSound}
use Rattle.seg_runner.specs.Memories.{GrowingMemory}

abbrev pub key_of : MemoryCell → ℕ
key_of c = place_number c.segment c.offset

differs : (a b s o : ℕ) → place_number a b < place_number s o → (a == s && b == o) ≡ false
differs a b s o before = grind (arith, nat_tests)

-- each cell of a list that rises is found at its place
pub found_there : (cells : List MemoryCell) → Rise cells → (k : ℕ) (d : MemoryCell) → k < length cells → value_at cells (get_or cells k d).segment (get_or cells k d).offset ≡ Some (get_or cells k d).value
found_there cells rise k d lt =
    let c = get_or cells k d in
    ap (option_map (λ (x : MemoryCell). x.value))
    (find_some (stands_at c.segment c.offset) cells k d lt (both _ _ (is_eq c.segment c.segment refl) (is_eq c.offset c.offset refl)) (λ j before.
    let x = get_or cells j d in
    let rises = keys_rise key_of cells rise j k before lt in
    let first = key_is key_of cells j d (omega arith) in
    let second = key_is key_of cells k d lt in
    differs x.segment x.offset c.segment c.offset (omega arith)))

-- the cells of a memory of the code are that memory
pub memory_is : (m : MemoryRecord) (cells : List MemoryCell) → cells ≡ m.cells → memory_of cells ≡ memory_in m
memory_is m cells same = ap memory_of same ∙ (λ i a. at_address a i)
  where
    at_address : (a : Datum) → memory_of m.cells a ≡ memory_in m a
    at_address (number n) = refl
    at_address (place s o) = refl

in_seven : (sizes : List ℕ) (s o : ℕ) → length sizes ≡ 7 → o < slice_index sizes s → s < length sizes
in_seven sizes s o seven inside = elim (cases_lt s (length sizes)) [
  | inl below ↦ below
  | inr past ↦ absurd (let none : slice_index sizes s ≡ 0 = get_or_past sizes s 0 past in omega arith)
]

module _ (words : List ℕ) (m : GrowingMemory) (sound : IsSound words m) (pie : PieRecord) (sizes : pie.sizes ≡ m.sizes) (cells : memory_of pie.cells ≡ m.cells) (rise : Rise pie.cells) where
  stands : (s o : ℕ) (v : Datum) → value_at pie.cells s o ≡ Some v → m.cells (place s o) ≡ Some v
  stands s o v e = sym (ap (λ (f : Datum → Option Datum). f (place s o)) cells) ∙ e

  cell_is : (k : ℕ) (d : MemoryCell) → k < length pie.cells → IsCellOf m.sizes (get_or pie.cells k d)
  cell_is k d lt =
      let c = get_or pie.cells k d in
      let there = stands c.segment c.offset c.value (found_there pie.cells rise k d lt) in
      let inside = sound.inside c.segment c.offset c.value there in
      record {
        in_segments = in_seven m.sizes c.segment c.offset sound.seven inside;
        in_size = inside;
        has_value = subst (λ (count : ℕ). IsValueIn count c.value) (sym sound.seven) (sound.values (place c.segment c.offset) c.value there);
      }

  sizes_are : AreSizes m.sizes
  sizes_are =
      let seven = sound.seven in
      record { at_least = omega arith; at_most = omega arith; no_return_fp = sound.no_return_fp; no_return_pc = sound.no_return_pc; in_all = sound.in_all }

  pub pie_rules : pie.steps ≤ most_steps → KeepsRules pie
  pie_rules few = record {
    are_sizes = subst AreSizes (sym sizes) sizes_are;
    few_steps = few;
    are_cells = subst (λ (ss : List ℕ). All (IsCellOf ss) pie.cells) (sym sizes) cell_is;
    rise = rise;
  }

  pub pie_code : HoldsNumbers pie.cells 0 (slice_index pie.sizes 0) words
  pie_code =
      let size : slice_index pie.sizes 0 ≡ length words = ap (λ (ss : List ℕ). slice_index ss 0) sizes ∙ sound.code_size in
      record {
        count = sym size;
        each = λ i lt. ap (λ (f : Datum → Option Datum). f (place 0 i)) cells ∙ sound.has_code i (omega arith);
      }
