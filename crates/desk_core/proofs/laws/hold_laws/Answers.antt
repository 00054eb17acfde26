use Rattle.desk_core.proofs.StaysLemmas as lemmas
use Rattle.desk_core.proofs.laws.hold_laws.Goals as goal

pub returns-clause-takes : goal.returns-clause-takes
returns-clause-takes c = lemmas.takes_law

pub returns-clause-on : goal.returns-clause-on
returns-clause-on c = lemmas.holds_on_law

pub returns-clause-registers : goal.returns-clause-registers
returns-clause-registers c = lemmas.registers_law

pub returns-clause-returns : goal.returns-clause-returns
returns-clause-returns c = lemmas.returns_law
