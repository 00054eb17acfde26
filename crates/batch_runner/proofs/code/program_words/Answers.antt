use Rattle.std.proofs.Common.{◌≡◌, ℕ, List, IfOk, length, map, take, ap, subst, sym, ◌∙◌, arith}
use Rattle.std.proofs.lemmas.List.{length-map, take-map}
use Rattle.cairo_model.specs.Pie.Records.{MemoryCell, PieRecord}
use Rattle.cairo_model.specs.Views.Pie.{memory_cell}
use Rattle.batch_runner.proofs.CodeWords.{code_first, word_in}
use Rattle.batch_runner.proofs.code.program_words.Goals as goal

pub first_numbers-requires : goal.first_numbers-requires
first_numbers-requires c =
    let cells = ap (map memory_cell) c.as_slice.ensures.value ∙ ap (λ (p : PieRecord). p.cells) (c.behind-task.view_is ∙ c.pie.ensures) in
    let first = code_first (record { checked = c.args.task.now; accepted = c.requires }) in
    let count = sym (length-map c.as_slice.result.now memory_cell) ∙ ap length cells in
    omega (arith, c.size_at-size.ensures.value, first.enough, count)

pub returns : goal.returns
returns c =
    let cells = ap (map memory_cell) c.as_slice.ensures.value ∙ ap (λ (p : PieRecord). p.cells) (c.behind-task.view_is ∙ c.pie.ensures) in
    let first = code_first (record { checked = c.args.task.now; accepted = c.requires }) in
    let n = c.size_at-size.result in
    let same =
    ap (map word_in) (sym (take-map memory_cell n c.as_slice.result.now)) ∙ ap (λ (xs : List MemoryCell). map word_in (take n xs)) cells
    ∙ ap (λ (k : ℕ). map word_in (take k c.args.task.now.pie.cells)) c.size_at-size.ensures.value ∙ first.words in
    subst (λ (xs : List ℕ). IfOk c.first_numbers.result (λ words. words.items ≡ xs)) same c.first_numbers.ensures
