use Rattle.goldi_field.proofs.Inverses.{IsOver}
use Rattle.goldi_field.proofs.inverse.inverse_of.Given as goal
use Rattle.goldi_field.specs.Numbers.{prime}
use Rattle.std.proofs.Common.{◌≡◌, ◌*◌, ◌%◌, ◌<◌, ◌≤◌}

abbrev pub invariant-loop-lower : goal.invariant-loop-lower
invariant-loop-lower l = record {
  above : 0 < l.lower;
  falls : l.lower < l.upper;
  below : l.upper ≤ prime;
  over : IsOver prime l.upper l.lower;
  upper_times : l.fn.a.number * l.upper_factor.number % prime ≡ l.upper % prime;
  lower_times : l.fn.a.number * l.lower_factor.number % prime ≡ l.lower % prime;
}

abbrev pub decreases-loop-lower : goal.decreases-loop-lower
decreases-loop-lower l = l.lower
