use Rattle.std.proofs.Common.{map, sym, ap, subst, ◌∙◌}
use Rattle.std.specs.List.{AllByRecursion}
use Rattle.goldi_field.specs.Numbers.{IsFelt}
use Rattle.cairo_model.specs.Pie.Records.{PieRecord}
use Rattle.cairo_model.specs.Views.Pie.{memory_cell}
use Rattle.shared_prover_cli.specs.Answers.List.{IsCodeOf}
use Rattle.shared_prover_cli.proofs.CodeCells.{first_size, numbers_are, numbers_fit, taken}
use Rattle.shared_prover_cli.proofs.answers.list.code_of.Goals as goal

-- there are so many cells
pub slice_bounds-numbers_of-end : goal.slice_bounds-numbers_of-end
slice_bounds-numbers_of-end c =
    let pie = c.args.checked.now.pie in
    let rules = c.requires.rules in
    let shows = c.requires.shows in
    let seen = c.pie.view_is ∙ c.pie-pie.ensures in
    let size = first_size pie rules _ (ap (λ (p : PieRecord). p.sizes) seen) c.index.result.now c.index.ensures in
    let cells = ap (map memory_cell) c.deref.ensures.value ∙ ap (λ (p : PieRecord). p.cells) seen in
    sym (taken pie rules shows.code shows.has_code c.deref.result.now cells c.index.result.now size)

-- each word is a field number
pub invariant_of-result : goal.invariant_of-result
invariant_of-result c = record { felts = subst (AllByRecursion IsFelt) (sym c.in_ok-words.ensures) (numbers_fit _) }

-- they are the words of the program segment
pub returns-clause-words : goal.returns-clause-words
returns-clause-words c =
    let pie = c.args.checked.now.pie in
    let rules = c.requires.rules in
    let shows = c.requires.shows in
    let seen = c.pie.view_is ∙ c.pie-pie.ensures in
    let size = first_size pie rules _ (ap (λ (p : PieRecord). p.sizes) seen) c.index.result.now c.index.ensures in
    let cells = ap (map memory_cell) c.deref.ensures.value ∙ ap (λ (p : PieRecord). p.cells) seen in
    let same = c.in_ok-words.ensures ∙ numbers_are pie rules shows.code shows.has_code c.deref.result.now cells c.index.result.now size in
    subst (IsCodeOf pie) (sym same) shows.has_code
