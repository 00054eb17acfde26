use Rattle.std.proofs.Common.{◌≡◌, inl, inr, subst, true, Bool, IsTrue, rules, arith}
use Rattle.std.proofs.lemmas.Bool.{cases_lt}
use Rattle.row_checker.specs.Working.Walks.{Leads}
use Rattle.row_checker.proofs.Walking.{leads_so, steps_so}
use Rattle.row_checker.proofs.rows.first_bad_row.Goals as goal

true_so : (b : Bool) → b ≡ true → IsTrue b
true_so b is = search rules

pub loop-row-preserved : goal.loop-row-preserved
loop-row-preserved c = λ k above below.
    elim (cases_lt k c.loop-row.row) [
      | inl early ↦ c.loop-row.invariant k above early
      | inr late ↦
          let same : c.loop-row.row ≡ k = omega (arith, below, late) in
          let step = c.row_holds.ensures.step.0 (true_so _ c.if-not-row_holds.false) in
          subst (Leads c.args.memory.now c.args.states.now) same
          (leads_so c.args.memory.now c.args.states.now c.loop-row.row c.index-states-row.result c.index-states-row-in-loop-row.result (omega (arith, c.requires, c.loop-row-test.true)) c.index-states-row.is c.index-states-row-in-loop-row.is step)
    ]

pub returns-then-not-row_holds : goal.returns-then-not-row_holds
returns-then-not-row_holds c = record {
  above = c.loop-row.auto.row;
  below = c.loop-row-test.true;
  bad = λ leads.
      let step = steps_so c.args.memory.now c.args.states.now c.loop-row.row c.index-states-row.result c.index-states-row-in-loop-row.result (omega (arith, c.requires, c.loop-row-test.true)) c.index-states-row.is c.index-states-row-in-loop-row.is leads in
      absurd (let is = c.row_holds.ensures.step.1 step in search rules);
  before = c.loop-row.invariant;
}
