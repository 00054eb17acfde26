use Rattle.std.proofs.Common.{◌≤◌, map, refl, arith, rules}
use Rattle.cairo_model.specs.Limits.{most_steps}
use Rattle.cairo_model.specs.Pie.Records.{PieRecord}
use Rattle.cairo_model.specs.Views.Pie.{memory_cell}
use Rattle.seg_runner.specs.Views.{run_cause}
use Rattle.seg_runner.specs.Working.Seen.{growing}
use Rattle.seg_runner.specs.Working.Running.{ended}
use Rattle.seg_runner.proofs.MadePies.{memory_is, pie_code, pie_rules}
use Rattle.seg_runner.proofs.RunAnswers.{run_refused, runs_to, steps_in}
use Rattle.seg_runner.proofs.SoundRuns.{run_keeps}
use Rattle.seg_runner.proofs.runner.made.Goals as goal

pub returns-in_err-home-clause-refused : goal.returns-in_err-home-clause-refused
returns-in_err-home-clause-refused c = λ e same.
    run_refused c.args.code.now.words.items c.args.code.now.main c.args.limit (run_cause e) (c.in_err-home.ensures.refused e (search rules))

pub returns : goal.returns
returns c =
    let words = c.args.code.now.words.items in
    let main = c.args.code.now.main in
    let limit = c.args.limit in
    let home = c.in_ok-home.home in
    let end = ended home.steps (growing home.memory) in
    let is = c.in_ok-home.ensures.ok in
    let sound = run_keeps words main limit end c.args.code.now.felts c.requires.main is in
    let pie : PieRecord = record { main = main; steps = home.steps; sizes = c.in_ok-sizes_of.field-0.items; cells = map memory_cell c.in_ok-cells.field-0.items } in
    let sizes = c.in_ok-sizes_of.ensures in
    let cells = memory_is home.memory pie.cells c.in_ok-cells.ensures.cells in
    let rise = c.in_ok-cells.ensures.rise in
    let in_limit = steps_in words main limit end is in
    let few : home.steps ≤ most_steps = let most = c.requires.limit in omega arith in
    let rules = pie_rules words (growing home.memory) sound pie sizes cells rise few in
    record {
      runs = runs_to words main limit end pie is refl refl sizes cells rules;
      code = pie_code words (growing home.memory) sound pie sizes cells rise;
      refused = λ e same. absurd (cc);
    }
