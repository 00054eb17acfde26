use Rattle.std.proofs.Common.{◌≡◌, ◌==◌, ℕ, List, All, map, subst, sym, ap, ◌∙◌}
use Rattle.std.specs.List.{IsDistinct}
use Rattle.std.specs.List.Sorted.{IsPermutation}
use Rattle.cairo_model.specs.Pie.Records.{PieRecord, IsCellOf}
use Rattle.cairo_model.specs.Views.Pie.{memory_cell}
use Rattle.cairo_model.specs.Machine.FieldMemories.{FieldCell, field_cell, addresses}
use Rattle.cairo_model.specs.Pie.Layouts.{relocated_cell}
use Rattle.relocator.specs.Working.Lists.{numbers, IsCellIn}
use Rattle.relocator.proofs.Apart.{distinct_addresses}
use Rattle.relocator.proofs.ListsIn.{cells_in, same_count}
use Rattle.relocator.proofs.ListFacts.{if_ok_both}
use Rattle.relocator.proofs.PlacedCells.{are_placed}
use Rattle.relocator.proofs.relocating.place_cells.Goals as goal
use Rattle.relocator.proofs.relocating.place_cells.Goals.{After-as_slice, In_ok-placed}

cells_are : (c : After-as_slice) → map memory_cell c.as_slice.result.now ≡ c.args.pie.now.cells
cells_are c = ap (map memory_cell) c.as_slice.ensures.value ∙ ap (λ (p : PieRecord). p.cells) c.pie.view_is

pub relocate_cells-requires : goal.relocate_cells-requires
relocate_cells-requires c =
    subst (λ (n : ℕ). All (IsCellIn n) c.as_slice.result.now) (same_count c.args.bases.now c.args.pie.now.sizes c.requires.fits.one_each)
    (cells_in c.args.pie.now.sizes c.as_slice.result.now (subst (All (IsCellOf c.args.pie.now.sizes)) (sym (cells_are c)) c.requires.rules.are_cells))

relocated_are : (c : In_ok-placed) → map field_cell c.in_ok-placed.placed.items ≡ map (relocated_cell (numbers c.args.bases.now)) c.args.pie.now.cells
relocated_are c = c.in_ok-placed.ensures ∙ ap (map (relocated_cell (numbers c.args.bases.now))) (ap (map memory_cell) c.as_slice.ensures.value ∙ ap (λ (p : PieRecord). p.cells) c.pie.view_is)

pub sorted_cells-requires : goal.sorted_cells-requires
sorted_cells-requires c =
    subst (λ (cells : List FieldCell). IsDistinct ◌==◌ (addresses cells)) (sym (relocated_are c))
    (distinct_addresses (numbers c.args.bases.now) c.args.pie.now c.requires.fits c.requires.rules)

pub returns : goal.returns
returns c =
    if_ok_both c.sorted_cells.result _ _ _ c.sorted_cells.ensures.rise c.sorted_cells.ensures.same_cells (λ out up moved.
    are_placed (numbers c.args.bases.now) c.args.pie.now c.requires.rules (map field_cell out.items) up
    (subst (λ (cells : List FieldCell). IsPermutation cells (map field_cell out.items)) (relocated_are (goal.at.returns c).In_ok-placed) moved))
