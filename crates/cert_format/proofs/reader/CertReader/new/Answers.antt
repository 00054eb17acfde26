use Rattle.cert_format.specs.Working.DraftViews.{partial}
use Rattle.cert_format.proofs.FedLaws.{fed_nothing, new_inside}
use Rattle.cert_format.proofs.reader.CertReader.new.Goals as goal

pub invariant_of-result : goal.invariant_of-result
invariant_of-result c same = new_inside (partial c.new.result) c.new-2.result c.new.ensures c.new-2.ensures

pub returns : goal.returns
returns c = fed_nothing (partial c.new.result) c.new-2.result c.new.ensures c.new-2.ensures
