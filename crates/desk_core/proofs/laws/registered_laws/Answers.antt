use Rattle.desk_core.proofs.StaysLemmas as lemmas
use Rattle.desk_core.proofs.laws.registered_laws.Goals as goal

pub returns-clause-registered : goal.returns-clause-registered
returns-clause-registered c = lemmas.registered_stays_law

pub returns-clause-shown : goal.returns-clause-shown
returns-clause-shown c = lemmas.shown_stays_law

pub returns-clause-yes : goal.returns-clause-yes
returns-clause-yes c = lemmas.yes_stays_law
