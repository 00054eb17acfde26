use Rattle.std.proofs.Common.{◌∙◌}
use Rattle.desk_script.proofs.Cuts.{found_at}
use Rattle.desk_script.proofs.fields.first_at.Goals as goal

pub returns : goal.returns
returns c = c.unwrap_or.ensures ∙ found_at c.args.byte c.args.text.now c.memchr.result c.memchr.ensures
