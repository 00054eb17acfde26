-- Under a layout that fits, cells of a PIE have distinct addresses.
use Rattle.std.proofs.Common.{◌≡◌, ◌≢◌, ℕ, ◌+◌, ◌^◌, ◌<◌, ◌==◌, false, List, length, map, get_or, sym, subst, ◌∙◌, arith}
use Rattle.std.specs.List.{IsDistinct}
use Rattle.std.proofs.Math.Nat.{mod-eq_of_lt}
use Rattle.std.proofs.lemmas.Bool.{ne_eqb}
use Rattle.std.proofs.lemmas.List.{get_or-map, length-map}
use Rattle.std.proofs.lemmas.List.Elements.{All-get_or}
use Rattle.std.proofs.lemmas.Map.Keys.{IsDistinct-from_apart}
use Rattle.goldi_field.specs.Numbers.{sum_of}
use Rattle.cairo_model.specs.Machine.Values.{place}
use Rattle.cairo_model.specs.Pie.Records.{MemoryCell, PieRecord, IsCellOf, KeepsRules, place_number}
use Rattle.cairo_model.specs.Pie.Layouts.{Fits, base_of, relocated, relocated_cell}
use Rattle.cairo_model.specs.Machine.FieldMemories.{addresses}
use Rattle.cairo_model.proofs.Searching.{key_is, keys_rise, map_twice}
use Rattle.cairo_model.proofs.Lists.{at_some}
use Rattle.cairo_model.proofs.PieMemories.{key_of, offset_below}

one_spot : (s o t q : ℕ) (b : ℕ → ℕ) → (s ≢ t → b s + o ≢ b t + q) → b s + o ≡ b t + q → place_number s o ≡ place_number t q
one_spot s o t q b apart same =
    let segment : s ≡ t = grind (arith, apart) in
    let offset : o ≡ q = grind (arith, segment) in
    omega (arith, segment, offset)

pub no_wrap : (b o : ℕ) → b < 2 ^ 32 → o < 2 ^ 31 → sum_of b o ≡ b + o
no_wrap b o low near = mod-eq_of_lt (omega arith)

abbrev pub address_of : List ℕ → MemoryCell → ℕ
address_of bases c = relocated bases (place c.segment c.offset)

module _ (bases : List ℕ) (pie : PieRecord) (fits : Fits bases pie.sizes) (rules : KeepsRules pie) where
  -- cells with one address have one place
  one_address : (c d : MemoryCell) → IsCellOf pie.sizes c → IsCellOf pie.sizes d → address_of bases c ≡ address_of bases d → key_of c ≡ key_of d
  one_address c d inside other e =
      let low = fits.in_bounds c.segment 0 (omega (arith, fits.one_each, inside.in_segments)) in
      let low_too = fits.in_bounds d.segment 0 (omega (arith, fits.one_each, other.in_segments)) in
      let near = offset_below pie.sizes rules.are_sizes c inside in
      let near_too = offset_below pie.sizes rules.are_sizes d other in
      let same : base_of bases c.segment + c.offset ≡ base_of bases d.segment + d.offset =
      sym (no_wrap (base_of bases c.segment) c.offset low.1 (omega arith)) ∙ e ∙ no_wrap (base_of bases d.segment) d.offset low_too.1 (omega arith) in
      one_spot c.segment c.offset d.segment d.offset (base_of bases) (λ differ. fits.apart c.segment inside.in_segments d.segment other.in_segments differ c.offset d.offset inside.in_size other.in_size) same

  apart_at : (i j : ℕ) (d : ℕ) (e : MemoryCell) → i < j → j < length pie.cells → (get_or (map (address_of bases) pie.cells) i d == get_or (map (address_of bases) pie.cells) j d) ≡ false
  apart_at i j d e lt there =
      let here : i < length pie.cells = omega arith in
      let inside = All-get_or (IsCellOf pie.sizes) pie.cells i e here rules.are_cells in
      let other = All-get_or (IsCellOf pie.sizes) pie.cells j e there rules.are_cells in
      rw (get_or-map (address_of bases) pie.cells i e d here, get_or-map (address_of bases) pie.cells j e d there)
      (ne_eqb _ _ (λ same.
      let one = one_address (get_or pie.cells i e) (get_or pie.cells j e) inside other same in
      omega (arith, one, keys_rise key_of pie.cells rules.rise i j lt there, key_is key_of pie.cells i e here, key_is key_of pie.cells j e there)))

  pub distinct_addresses : IsDistinct ◌==◌ (addresses (map (relocated_cell bases) pie.cells))
  distinct_addresses =
      subst (IsDistinct ◌==◌) (sym (map_twice (relocated_cell bases) (λ (c : ℕ × ℕ). c.0) pie.cells))
      (IsDistinct-from_apart ◌==◌ (map (address_of bases) pie.cells) (λ i j d lt in_range.
      let there : j < length pie.cells = omega (arith, length-map pie.cells (address_of bases)) in
      at_some pie.cells j there (λ e. apart_at i j d e lt there)))
