-- Relocated cells that are sorted are the cells of the memory, placed.
use Rattle.std.proofs.Common.{◌≡◌, ℕ, ◌==◌, List, map, Some, sym, ap, ◌∙◌}
use Rattle.std.specs.List.{IsDistinct}
use Rattle.std.specs.List.Sorted.{IsPermutation, IsNonDecreasingBy}
use Rattle.std.proofs.lemmas.List.Sorted.{IsPermutation-map, IsPermutation-sym, Contains-permutation}
use Rattle.goldi_field.specs.declared.Felt.{Felt}
use Rattle.cairo_model.specs.Machine.Values.{Datum, place}
use Rattle.cairo_model.specs.Pie.Records.{PieRecord, KeepsRules, memory_of}
use Rattle.cairo_model.specs.Machine.FieldMemories.{FieldCell, field_cell, addresses, AddressesRise, cell_at}
use Rattle.cairo_model.specs.Pie.Layouts.{relocated, relocated_cell}
use Rattle.cairo_model.specs.Pie.Relocation.{HasRelocated}
use Rattle.cairo_model.proofs.CellLemmas.{cell_found, cell_gives, sorted_cells}
use Rattle.cairo_model.proofs.Finding.{contains_map, contains_from_map}
use Rattle.cairo_model.proofs.PieMemories.{memory_gives, memory_has}
use Rattle.cairo_model.proofs.Searching.{map_twice}
use Rattle.relocator.specs.Placing.{ArePlaced, IsRelocatedCell}
use Rattle.relocator.proofs.ListFacts.{non_decreasing_map}

abbrev pub address : Felt × Felt → ℕ
address c = c.0.number

-- the code's cells, sorted by their address
pub sorted_rise : (cs ds : List (Felt × Felt)) → IsPermutation cs ds → IsNonDecreasingBy address ds → IsDistinct ◌==◌ (addresses (map field_cell cs)) → AddressesRise (map field_cell ds)
sorted_rise cs ds moved up distinct =
    sorted_cells (map field_cell cs) (map field_cell ds) (IsPermutation-map field_cell cs ds moved)
    (rw (map_twice field_cell (λ (c : FieldCell). c.0) ds) (non_decreasing_map address ds up)) distinct

module _ (bases : List ℕ) (pie : PieRecord) (rules : KeepsRules pie) (out : List FieldCell) (rise : AddressesRise out) (same : IsPermutation (map (relocated_cell bases) pie.cells) out) where
  each : HasRelocated bases (memory_of pie.cells) (cell_at out)
  each a v found =
      let from = memory_gives pie.cells a v found in
      let stands = Contains-permutation _ _ (relocated_cell bases from.cell) same (contains_map (relocated_cell bases) pie.cells from.cell from.stands) in
      ap (λ (x : Datum). cell_at out (relocated bases x)) (sym from.address) ∙ cell_found out rise (relocated_cell bases from.cell) stands ∙ ap (λ (x : Datum). Some (relocated bases x)) from.value

  no_other : (a v : ℕ) → cell_at out a ≡ Some v → IsRelocatedCell bases pie.cells a v
  no_other a v found =
      let cell = cell_gives out a v found in
      let from = contains_from_map (relocated_cell bases) pie.cells cell.cell (Contains-permutation _ _ cell.cell (IsPermutation-sym _ _ same) cell.stands) in
      record {
        from = place from.from.segment from.from.offset;
        holds = from.from.value;
        stands = memory_has pie rules from.from from.stands;
        has_address = ap (λ (c : FieldCell). c.0) from.is ∙ cell.has_address;
        has_value = ap (λ (c : FieldCell). c.1) from.is ∙ cell.has_value;
      }

  pub are_placed : ArePlaced bases pie.cells out
  are_placed = record { rise = rise; has_each = each; has_no_other = no_other; same_cells = same }
