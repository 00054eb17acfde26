use Rattle.std.proofs.Common.{◌≡◌, ℕ, suc, ◌+◌, ◌-◌, true, false, Ok, Err, sym, ap, ◌∙◌, arith, rules}
use Rattle.seg_runner.proofs.Turns.{runs_home, runs_more, runs_over, runs_refused}
use Rattle.seg_runner.specs.Endings.{is_returned}
use Rattle.seg_runner.specs.Refusals.{over_limit}
use Rattle.seg_runner.specs.Views.{run_cause}
use Rattle.seg_runner.specs.Working.Seen.{configuration, growing}
use Rattle.seg_runner.specs.Working.Running.{ended}
use Rattle.seg_runner.specs.declared.refusal.RunRefusal.{RunRefusal}
use Rattle.seg_runner.specs.declared.refusal.RunRefusal.TheVariants.{StepLimit}
use Rattle.seg_runner.proofs.running.run_home.Goals as goal

pub loop-number-preserved : goal.loop-number-preserved
loop-number-preserved c =
    let n = c.loop-number.number in
    let limit = c.args.limit in
    let left : limit - n ≡ suc (limit - (n + 1)) = omega arith in
    let now = configuration c.loop-number.memory c.loop-number.state in
    let after = configuration c.step.new.memory c.in_ok-state.state in
    let away : is_returned now.registers ≡ false = sym c.is_returned.ensures ∙ c.if-is_returned.false in
    record {
      sizes = c.in_ok-state.ensures.keeps;
      on = sym (runs_more (limit - n) (limit - (n + 1)) n now after left away c.in_ok-state.ensures.ok) ∙ c.loop-number.invariant.on;
    }

pub returns-then-is_returned-clause-ok : goal.returns-then-is_returned-clause-ok
returns-then-is_returned-clause-ok c =
    let n = c.loop-number.number in
    let now = configuration c.loop-number.memory c.loop-number.state in
    let home : is_returned now.registers ≡ true = sym c.is_returned.ensures ∙ c.if-is_returned.true in
    sym c.loop-number.invariant.on ∙ runs_home (c.args.limit - n) n now home

pub returns-in_err-state-clause-refused : goal.returns-in_err-state-clause-refused
returns-in_err-state-clause-refused c = λ e same.
    let n = c.loop-number.number in
    let limit = c.args.limit in
    let left : limit - n ≡ suc (limit - (n + 1)) = omega arith in
    let now = configuration c.loop-number.memory c.loop-number.state in
    let away : is_returned now.registers ≡ false = sym c.is_returned.ensures ∙ c.if-is_returned.false in
    sym c.loop-number.invariant.on ∙ runs_refused (limit - n) (limit - (n + 1)) n now (run_cause e) left away (c.in_err-state.ensures.refused e (search rules))

pub returns-then-not-is_returned-clause-refused : goal.returns-then-not-is_returned-clause-refused
returns-then-not-is_returned-clause-refused c = λ e same.
    let n = c.loop-number.number in
    let limit = c.args.limit in
    let done : limit - n ≡ 0 = omega arith in
    let number : n ≡ limit = omega arith in
    let now = configuration c.loop-number.memory c.loop-number.state in
    let away : is_returned now.registers ≡ false = search rules in
    let is : StepLimit limit ≡ e = cc in
    sym c.loop-number.invariant.on ∙ runs_over (limit - n) n now done away
    ∙ ap (λ (k : ℕ). Err (over_limit k)) number ∙ ap (λ (r : RunRefusal). Err (run_cause r)) is

pub returns : goal.returns
returns c =
    let n = c.loop-number.number in
    let number : n ≡ c.args.limit = omega arith in
    let now = configuration c.loop-number.memory c.loop-number.state in
    let home : is_returned now.registers ≡ true = sym c.is_returned-2.ensures ∙ c.if-not-is_returned.false in
    record {
      ok = sym c.loop-number.invariant.on ∙ runs_home (c.args.limit - n) n now home ∙ ap (λ (k : ℕ). Ok (ended k (growing c.loop-number.memory))) number;
      keeps = c.loop-number.invariant.sizes;
      refused = λ e same. absurd (cc);
    }
