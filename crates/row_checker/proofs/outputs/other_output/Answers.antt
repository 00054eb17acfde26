use Rattle.std.proofs.Common.{map, sym, ◌∙◌, below_more}
use Rattle.row_checker.proofs.Few.{few_indices}
use Rattle.row_checker.proofs.Printed.{printed_there}
use Rattle.row_checker.proofs.outputs.other_output.Goals as goal

pub loop-index-preserved : goal.loop-index-preserved
loop-index-preserved c =
    let both = c.prints.ensures.0 c.if-not-prints.false in
    below_more _ _ c.loop-index.invariant (both.0, (sym c.printed_at.ensures ∙ both.1.0, sym c.wanted_at.ensures ∙ both.1.1))

pub returns-then-not-prints-clause-few : goal.returns-then-not-prints-clause-few
returns-then-not-prints-clause-few c =
    few_indices c.args.cert.now.cells c.is_certificate.ensures.rise c.args.cert.now.output.start c.loop-index.index
    (λ k lt. printed_there c.args.cert.now (map (λ f. f.number) c.args.wanted.now) k (c.loop-index.invariant k lt))
