use Rattle.std.proofs.Common.{◌≡◌, ℕ, zero, suc, ◌+◌, ◌-◌, ◌<◌, length, map, Option, Some, None, subst, rules, arith}
use Rattle.std.proofs.lemmas.List.{length-map}
use Rattle.cairo_model.specs.Views.Machine.{field_registers}
use Rattle.row_checker.specs.Working.Walks.{AllGood, IsAnswer, IsFirstBad, Leads}
use Rattle.row_checker.proofs.checking.bad_row.Goals as goal

module _ (Good : ℕ → Type 0) (n : ℕ) (o : Option ℕ) (some : 0 < n) (by : (rows : ℕ) → rows + 1 ≡ n → IsAnswer Good 0 rows o) where
  answered : (row : ℕ) → o ≡ Some row → IsFirstBad Good 0 (n - 1) row
  answered row is = subst (IsAnswer Good 0 (n - 1)) is (by (n - 1) (omega (arith, some)))

  unanswered : o ≡ None → AllGood Good 0 (n - 1)
  unanswered is = subst (IsAnswer Good 0 (n - 1)) is (by (n - 1) (omega (arith, some)))

pub overflow_cast-result : goal.overflow_cast-result
overflow_cast-result g c = let below = (answered (Leads c.args.memory.now c.args.states.now) (length c.args.states.now) c.in_ok-row.field-0 c.requires.state c.in_ok-row.ensures.answer c.in-Some.row (search rules)).below in omega (arith, below, c.requires.few)

pub cause_at-requires-clause-inside : goal.cause_at-requires-clause-inside
cause_at-requires-clause-inside g c = let below = (answered (Leads c.args.memory.now c.args.states.now) (length c.args.states.now) c.in_ok-row.field-0 c.requires.state c.in_ok-row.ensures.answer c.in-Some.row (search rules)).below in omega (arith, below)

pub cause_at-requires-clause-bad : goal.cause_at-requires-clause-bad
cause_at-requires-clause-bad g c = (answered (Leads c.args.memory.now c.args.states.now) (length c.args.states.now) c.in_ok-row.field-0 c.requires.state c.in_ok-row.ensures.answer c.in-Some.row (search rules)).bad

pub returns-in-Some-clause-answer : goal.returns-in-Some-clause-answer
returns-in-Some-clause-answer g c =
    let first = answered (Leads c.args.memory.now c.args.states.now) (length c.args.states.now) c.in_ok-row.field-0 c.requires.state c.in_ok-row.ensures.answer c.in-Some.row (search rules) in
    let count = length-map c.args.states.now field_registers in (
      record { inside = let below = first.below in omega (arith, below, count); fails = first.bad; before = λ k lt. first.before k (omega arith) lt },
      record {
        state = c.cause_at.ensures.state;
        after = c.cause_at.ensures.after;
        is_state = c.cause_at.ensures.is_state;
        is_after = c.cause_at.ensures.is_after;
        stops = c.cause_at.ensures.stops;
      },
    )

pub returns-in-None-clause-answer : goal.returns-in-None-clause-answer
returns-in-None-clause-answer g c = λ k lt.
    let count = length-map c.args.states.now field_registers in
    unanswered (Leads c.args.memory.now c.args.states.now) (length c.args.states.now) c.in_ok-row.field-0 c.requires.state c.in_ok-row.ensures.answer (search rules) k (omega arith) (omega (arith, lt, count))
