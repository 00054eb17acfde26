use Rattle.std.proofs.Common.{◌≡◌, ◌-◌, None, ◌∙◌, sym, arith}
use Rattle.cert_format.specs.Working.DraftViews.{partial}
use Rattle.cert_format.proofs.EndLaws.{ends_well, not_some}
use Rattle.cert_format.proofs.answer.answer_at_end.Goals as goal

pub certificate-requires : goal.certificate-requires
certificate-requires c =
    let p = partial c.args.partial in
    let none : p.bad ≡ None = not_some p.bad c.in_default.not-Some in
    let kept = sym c.order_fault.ensures ∙ not_some c.order_fault.result c.in_default-order_fault.not-Some in
    let zero : c.args.partial.place - c.args.start ≡ 0 = omega (arith, c.if-behind-gt0.false, c.saturating_sub-behind.ensures) in
    c.requires.keeps _ (ends_well c.args.start c.args.partial.place p none kept zero)
