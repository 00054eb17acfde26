use Rattle.std.proofs.Common.{arith}
use Rattle.pie_format.proofs.ReadingLaws.{is_found}
use Rattle.pie_format.proofs.CausesLaws.{is_first}
use Rattle.pie_format.proofs.reading.read.Goals as goal

pub returns-clause-ok : goal.returns-clause-ok
returns-clause-ok c = is_found c.args.bytes.now c.pie_in.result (λ i. omega (arith, c.type_inv.bytes i)) c.pie_in.ensures

pub returns-clause-refused : goal.returns-clause-refused
returns-clause-refused c = is_first c.args.bytes.now c.pie_in.result (λ i. omega (arith, c.type_inv.bytes i)) c.pie_in.ensures
