use Rattle.std.proofs.Common.{◌≡◌, ◌*◌, ◌%◌, ◌^◌, ap, ◌∙◌, sym, arith}
use Rattle.std.proofs.Math.Nat.{mod-eq_of_lt, mul-one, pow-zero}
use Rattle.goldi_field.specs.Numbers.{prime}
use Rattle.goldi_field.proofs.Powers.{even_turn, odd_turn}
use Rattle.goldi_field.proofs.Felt.pow.Goals as goal
use Rattle.goldi_field.proofs.Felt.pow.Goals.{then-left-eq1, else-left-eq1}

-- each turn squares the base and halves the exponent
pub loop-left-preserved : goal.loop-left-preserved
loop-left-preserved c =
    let square = c.loop-left.square.number in
    let power = c.loop-left.power.number in
    let left = c.loop-left.left in
    elim c.if-left-eq1.branch [
      | then-left-eq1 w ↦ rw (c.mul-square.ensures, w.power-is, w.mul-power.ensures) (odd_turn power square left prime w.if-left-eq1.true ∙ c.loop-left.invariant)
      | else-left-eq1 w ↦ rw (c.mul-square.ensures, w.power-is) (even_turn power square left prime (omega (arith, w.if-left-eq1.false)) ∙ c.loop-left.invariant)
    ]

-- at exponent 0 the power alone is left
pub returns : goal.returns
returns c =
    let power = c.loop-left.power.number in
    let none : c.loop-left.left ≡ 0 = omega arith in
    let last : power * c.loop-left.square.number ^ c.loop-left.left ≡ power = rw (none, pow-zero c.loop-left.square.number) (mul-one power) in
    sym (ap (λ n. n % prime) last ∙ mod-eq_of_lt c.loop-left.power.below) ∙ c.loop-left.invariant
