use Rattle.std.proofs.Common.{◌≡◌, ℕ, List, length, map, slice_get, Option, Some, sym, ap, subst, ◌∙◌, rules, arith}
use Rattle.std.proofs.lemmas.List.{length-map}
use Rattle.cairo_model.specs.Machine.FieldMemories.{cell_at}
use Rattle.cairo_model.specs.Pie.Records.{MemoryCell, PieRecord}
use Rattle.cairo_model.specs.Views.Pie.{memory_cell}
use Rattle.cairo_model.specs.declared.pie.PieCell.{PieCell}
use Rattle.boot_program.specs.Faults.Tasks.{IsFirstMissing}
use Rattle.row_checker.specs.Working.Tasks.{HasCell, HasCellAt}
use Rattle.row_checker.proofs.Standing.{all_have, first_lacks, image_at, image_is}
use Rattle.row_checker.proofs.tasks.missing_in.Goals as goal

-- a cell of the list, as one of the PIE
moved : (bases : List ℕ) (field : ℕ → Option ℕ) (list cells : List MemoryCell) (k : ℕ) → list ≡ cells → HasCellAt bases field list k → HasCellAt bases field cells k
moved bases field list cells k same has = subst (λ (xs : List MemoryCell). HasCellAt bases field xs k) same has

pub returns-in-Some-clause-some : goal.returns-in-Some-clause-some
returns-in-Some-clause-some c =
    let bases = map (λ f. f.number) c.args.bases.now in
    let field = cell_at c.args.cells.now in
    let list = c.as_slice-list.result.now in
    let same = ap (map memory_cell) c.as_slice-list.ensures.value ∙ ap (λ (p : PieRecord). p.cells) c.pie.view_is in
    let item = c.index-list-index.result in
    let failing = c.in-Some.ensures.some in
    subst (λ (x : PieCell). IsFirstMissing bases c.args.pie.now.cells field x.place.segment x.place.offset) c.index-list-index.is
    (first_lacks c.args.pie.now c.requires bases field c.in-Some.index (memory_cell item)
    (ap (λ (xs : List MemoryCell). slice_get xs c.in-Some.index) (sym same) ∙ image_at memory_cell list c.in-Some.index item failing.inside c.index-list-index.is)
    (λ has. failing.fails (λ cell is. subst (HasCell bases field) (image_is memory_cell list c.in-Some.index item cell failing.inside c.index-list-index.is is) has))
    (λ k lt. moved bases field (map memory_cell list) c.args.pie.now.cells k same (failing.before k lt)))

pub returns-in-None-clause-none : goal.returns-in-None-clause-none
returns-in-None-clause-none c =
    let bases = map (λ f. f.number) c.args.bases.now in
    let field = cell_at c.args.cells.now in
    let list = c.as_slice-list.result.now in
    let same = ap (map memory_cell) c.as_slice-list.ensures.value ∙ ap (λ (p : PieRecord). p.cells) c.pie.view_is in
    let count = ap (length {A = MemoryCell}) same in
    all_have c.args.pie.now c.requires bases field (λ k lt.
    moved bases field (map memory_cell list) c.args.pie.now.cells k same (c.in-None.ensures.none k (omega (arith, lt, count, length-map list memory_cell))))
