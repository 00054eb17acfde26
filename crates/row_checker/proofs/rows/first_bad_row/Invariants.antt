use Rattle.row_checker.specs.Working.Walks.{AllGood, Leads}
use Rattle.row_checker.proofs.rows.first_bad_row.Given as goal

abbrev pub invariant-loop-row : goal.invariant-loop-row
invariant-loop-row l = AllGood (Leads l.fn.memory l.states) l.fn.first l.row
