use Rattle.desk_script.proofs.OwnLineLemmas as lemmas
use Rattle.desk_script.proofs.laws.own_lines_laws.Goals as goal

pub returns-clause-journals : goal.returns-clause-journals
returns-clause-journals c = lemmas.journals_have_own_lines

pub returns-clause-desks : goal.returns-clause-desks
returns-clause-desks c = lemmas.desks_have_own_lines

pub returns-clause-scripts : goal.returns-clause-scripts
returns-clause-scripts c = lemmas.scripts_have_own_lines
