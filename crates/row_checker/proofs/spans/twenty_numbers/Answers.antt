use Rattle.std.proofs.Common.{◌≡◌, ◌+◌, rules, sym, ap, ◌∙◌}
use Rattle.std.proofs.lemmas.List.{length-set}
use Rattle.cairo_model.specs.Machine.FieldMemories.{cell_at}
use Rattle.row_checker.proofs.Groups.{stand_more}
use Rattle.row_checker.proofs.spans.twenty_numbers.Goals as goal

pub loop-k-preserved : goal.loop-k-preserved
loop-k-preserved c = record {
  twenty = length-set c.loop-k.numbers c.loop-k.k c.value.result ∙ c.loop-k.invariant.twenty;
  stand = stand_more c.args.cells.now c.args.address c.loop-k.numbers c.loop-k.k c.value.result (search rules) c.loop-k.invariant.stand (search rules);
}

pub returns-in_default-clause-none : goal.returns-in_default-clause-none
returns-in_default-clause-none c = λ all.
    let here = all c.loop-k.k (search rules) in
    let same : c.args.address + c.loop-k.k ≡ c.felt_below.result.number = search rules in
    absurd (let found = c.get.ensures ∙ ap (cell_at c.args.cells.now) (sym same) ∙ here.1 in search rules)
