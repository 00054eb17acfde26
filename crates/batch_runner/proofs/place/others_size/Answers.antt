use Rattle.std.proofs.Common.{sum, ap, arith}
use Rattle.std.proofs.lemmas.List.{take_rest}
use Rattle.batch_runner.proofs.Limits.{sum_drop}
use Rattle.batch_runner.proofs.place.others_size.Goals as goal

pub total-requires-clause-small : goal.total-requires-clause-small
total-requires-clause-small c =
    let sizes = c.args.sizes.now in
    omega (arith, ap sum (take_rest sizes 7), sum_drop 7 sizes, c.requires.in_all)

pub returns-clause-few : goal.returns-clause-few
returns-clause-few c =
    let sizes = c.args.sizes.now in
    omega (arith, ap sum (take_rest sizes 7), sum_drop 7 sizes, c.total.ensures, c.requires.in_all)
