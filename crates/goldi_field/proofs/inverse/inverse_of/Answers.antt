use Rattle.goldi_field.proofs.Inverses.{next_factor, over_next, rest_above}
use Rattle.goldi_field.proofs.Prime.{no_divisor}
use Rattle.goldi_field.proofs.inverse.inverse_of.Goals as goal
use Rattle.goldi_field.specs.Numbers.{prime}
use Rattle.std.proofs.Common.{◌≡◌, ◌*◌, ◌/◌, ◌%◌, ◌∙◌, ap, arith}
use Rattle.std.proofs.Math.Nat.{div-add-mod, mod-lt}
use Rattle.std.proofs.lemmas.Nat.{mul-mod_first}

pub loop-lower-preserved : goal.loop-lower-preserved
loop-lower-preserved c =
    let turn = c.loop-lower in
    let kept = c.loop-lower.invariant in
    let times : c.mul.result.number ≡ turn.upper / turn.lower * turn.lower_factor.number % prime =
    c.mul.ensures ∙ ap (λ q. q * turn.lower_factor.number % prime) c.reduced-quotient.ensures
    ∙ mul-mod_first (turn.upper / turn.lower) turn.lower_factor.number prime in
    record {
      above = rest_above prime turn.upper turn.lower no_divisor kept.over c.loop-lower-test.true (omega arith);
      falls = mod-lt turn.upper (omega arith);
      below = omega arith;
      over = over_next prime turn.upper turn.lower kept.over;
      upper_times = kept.lower_times;
      lower_times =
          next_factor prime c.args.a.number turn.upper_factor.number turn.lower_factor.number turn.upper turn.lower
          (turn.upper / turn.lower) (turn.upper % turn.lower) c.sub-factor.result.number c.mul.result.number
          kept.upper_times kept.lower_times (div-add-mod turn.upper turn.lower)
          times c.mul.result.below c.sub-factor.ensures;
    }
