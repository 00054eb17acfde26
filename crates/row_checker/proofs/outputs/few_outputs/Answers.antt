use Rattle.std.proofs.Common.{ℕ, ◌<◌, ◌≤◌, List, length, arith}
use Rattle.std.proofs.lemmas.List.Sums.{get_or-le-sum_by}
use Rattle.cairo_model.specs.Machine.Steps.{Registers}
use Rattle.cairo_model.specs.Machine.Values.{Datum}
use Rattle.cairo_model.specs.Pie.Acceptance.{AcceptedWith, FactRecord}
use Rattle.cairo_model.specs.Pie.Records.{PieRecord}
use Rattle.row_checker.proofs.outputs.few_outputs.Goals as goal

few : (pie : PieRecord) (fact : FactRecord) (states : List (Registers Datum)) → AcceptedWith pie fact states → length fact.outputs ≤ 65536
few pie fact states accepted =
    let sizes = accepted.rules.are_sizes in
    let inside : 2 < length pie.sizes = omega (arith, sizes.at_least) in
    omega (arith, accepted.shows.has_outputs.count, sizes.in_all, get_or-le-sum_by (λ (x : ℕ). x) pie.sizes 2 0 inside)

pub returns : goal.returns
returns c = few c.args.task.now.pie c.args.task.now.fact c.args.task.now.states c.states-run.ensures.accepted
