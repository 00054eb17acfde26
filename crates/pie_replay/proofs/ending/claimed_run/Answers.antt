use Rattle.std.proofs.Common.{rules, ◌≡◌, ◌+◌, ◌∙◌, length, map, subst}
use Rattle.std.proofs.lemmas.List.{length-map}
use Rattle.cairo_model.specs.Refusals.ReplayRefusals.{IsFirstReplayCause, step}
use Rattle.cairo_model.specs.Views.ReplayRefusals.{replay_cause}
use Rattle.cairo_model.specs.Views.Machine.{registers}
use Rattle.cairo_model.specs.declared.replay_refusal.ReplayRefusal.{ReplayRefusal}
use Rattle.cairo_model.specs.declared.replay_refusal.ReplayRefusal.TheVariants.{Step}
use Rattle.pie_replay.proofs.Stages.{is_first, passes_on}
use Rattle.pie_replay.proofs.ending.claimed_run.Goals as goal

pub returns-in-Ok-clause-run : goal.returns-in-Ok-clause-run
returns-in-Ok-clause-run c =
    let count : length c.in-Ok.run'.states.items ≡ c.args.pie.now.steps + 1 = search rules in
    record {
      runs = rw (← c.first_state.ensures, ← c.requires.cells) c.in-Ok.ensures.run;
      count = length-map c.in-Ok.run'.states.items registers ∙ count;
    }

pub returns-in-Ok-clause-passes : goal.returns-in-Ok-clause-passes
returns-in-Ok-clause-passes c =
    let run = returns-in-Ok-clause-run c in
    passes_on c.args.pie.now 26 c.requires.passed (registers c.in-Ok.run'.last, record { states = map registers c.in-Ok.run'.states.items; runs = run.runs; count = run.count })

-- a step fails before the last
pub returns-in-Err-Refused-clause-refused : goal.returns-in-Err-Refused-clause-refused
returns-in-Err-Refused-clause-refused c = λ e same.
    let found = c.in-Err-Refused.ensures in
    let failed = c.in-Err-Refused.field-0-0 in
    let first = is_first c.args.pie.now (step failed.number failed.fault)
    (rw (← c.pie.view_is) (found.early failed (cc)), rw (← c.first_state.ensures, ← c.requires.cells) (found.fails failed (cc)))
    c.requires.passed in
    let is : Step failed.number failed.fault ≡ e = cc in
    subst (λ (r : ReplayRefusal). IsFirstReplayCause c.args.pie.now (replay_cause r)) is first
