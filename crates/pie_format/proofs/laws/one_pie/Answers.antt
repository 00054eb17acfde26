use Rattle.pie_format.proofs.ReadingLaws.{one_pie}
use Rattle.pie_format.proofs.laws.one_pie.Goals as goal

pub returns : goal.returns
returns c = one_pie
