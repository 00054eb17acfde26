use Rattle.std.proofs.Common.{◌≡◌, ◌*◌, ◌%◌, ◌^◌}
use Rattle.goldi_field.specs.Numbers.{prime, power_of}
use Rattle.goldi_field.proofs.Felt.pow.Given as goal

abbrev pub invariant-loop-left : goal.invariant-loop-left
invariant-loop-left l = l.power.number * l.square.number ^ l.left % prime ≡ power_of l.fn.self.number l.fn.exponent

abbrev pub decreases-loop-left : goal.decreases-loop-left
decreases-loop-left l = l.left
