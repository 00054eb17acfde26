use Rattle.desk_core.proofs.CutLemmas.{one_cut}
use Rattle.desk_core.proofs.seal.cut_number.Goals as goal

pub returns-clause-value : goal.returns-clause-value
returns-clause-value c = one_cut c.args.waiting.now c.cut.result c.cut.ensures.longest
