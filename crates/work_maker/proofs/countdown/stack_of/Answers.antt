use Rattle.std.proofs.Common.{◌≡◌, map, rules}
use Rattle.cairo_model.specs.Views.Machine.{datum}
use Rattle.work_maker.specs.Down.{down_stack}
use Rattle.work_maker.proofs.Countdowns.{few_values}
use Rattle.work_maker.proofs.countdown.stack_of.Goals as goal

pub returns-clause-few : goal.returns-clause-few
returns-clause-few c =
    let values = c.put_stops.new.stack.items in
    let is : map datum values ≡ down_stack c.args.rounds = search rules in
    few_values values c.args.rounds c.requires is
