use Rattle.pie_format.proofs.CausesLaws.{file_or_cause}
use Rattle.pie_format.proofs.laws.file_or_cause.Goals as goal

pub returns : goal.returns
returns c = file_or_cause
