use Rattle.std.proofs.Common.{Some, ap, sym, ◌∙◌, refl}
use Rattle.seg_runner.proofs.Quotients.{has_no_zero, no_quotient, quotient_found}
use Rattle.seg_runner.proofs.deductions.divided.Goals as goal

pub returns-in-None : goal.returns-in-None
returns-in-None c = sym (no_quotient c.args.a.number c.args.b.number (c.in-None.ensures.none.0 refl))

pub returns-in-Some : goal.returns-in-Some
returns-in-Some c =
    let a = c.args.a.number in
    let b = c.args.b.number in
    let i = c.in-Some.inverse.number in
    let unit = c.in-Some.ensures.value in
    ap Some c.mul.ensures ∙ sym (quotient_found a b i c.args.a.below c.args.b.below (has_no_zero b i unit) unit)
