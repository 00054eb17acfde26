use Rattle.std.proofs.Common.{sum, ap, arith}
use Rattle.std.proofs.lemmas.List.{take_rest}
use Rattle.batch_plan.proofs.Rooms.{sum_drop}
use Rattle.batch_plan.proofs.parts.size_of_others.Goals as goal

pub returns-clause-small : goal.returns-clause-small
returns-clause-small c =
    let sizes = c.args.sizes.now in
    omega (arith, ap sum (take_rest sizes 7), sum_drop 7 sizes, c.total.ensures, c.requires.in_all)
