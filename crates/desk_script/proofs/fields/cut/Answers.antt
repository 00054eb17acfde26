use Rattle.std.proofs.Common.{arith, rules}
use Rattle.desk_script.proofs.Cuts.{cut_at, uncut}
use Rattle.desk_script.proofs.fields.cut.Goals as goal

pub returns-then-end-text : goal.returns-then-end-text
returns-then-end-text c = cut_at c.args.separator c.first_at-end.result c.args.text.now c.first_at-end.ensures (search rules)

pub returns-else-end-text : goal.returns-else-end-text
returns-else-end-text c = uncut c.args.separator c.args.text.now (omega (arith, c.first_at-end.ensures, c.if-end-text.false))
