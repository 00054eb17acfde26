use Rattle.std.proofs.Common.{rules}
use Rattle.seg_runner.proofs.GoodStarts.{starts_as}
use Rattle.seg_runner.proofs.Parts.{no_start, run_ends, run_fails, run_stops}
use Rattle.seg_runner.specs.Views.{run_cause}
use Rattle.seg_runner.specs.Working.Seen.{configuration, growing}
use Rattle.seg_runner.specs.Working.Running.{ended}
use Rattle.seg_runner.proofs.runner.brought_home.Goals as goal

pub returns-in_err-memory-clause-refused : goal.returns-in_err-memory-clause-refused
returns-in_err-memory-clause-refused c = λ e same.
    let main = c.args.code.now.main in
    no_start c.args.code.now.words.items main c.args.limit (run_cause e) (c.in_err-memory.ensures.refused e (search rules) main)

pub returns-in_err-steps-clause-refused : goal.returns-in_err-steps-clause-refused
returns-in_err-steps-clause-refused c = λ e same.
    let words = c.args.code.now.words.items in
    let main = c.args.code.now.main in
    let start = configuration c.in_ok-memory.memory c.start_state.result in
    let starts = starts_as words main start c.in_ok-memory.ensures.fits c.in_ok-memory.ensures.ok c.start_state.ensures in
    run_stops words main c.args.limit start starts (run_cause e) (c.in_err-steps.ensures.refused e (search rules))

pub returns-in_err-complete-clause-refused : goal.returns-in_err-complete-clause-refused
returns-in_err-complete-clause-refused c = λ e same.
    let words = c.args.code.now.words.items in
    let main = c.args.code.now.main in
    let start = configuration c.in_ok-memory.memory c.start_state.result in
    let starts = starts_as words main start c.in_ok-memory.ensures.fits c.in_ok-memory.ensures.ok c.start_state.ensures in
    let end = ended c.in_ok-steps.steps (growing c.run_home.new.memory) in
    run_fails words main c.args.limit start starts end (run_cause e) c.in_ok-steps.ensures.ok (c.in_err-complete.ensures.refused e (search rules))

pub returns-clause-ok : goal.returns-clause-ok
returns-clause-ok c =
    let words = c.args.code.now.words.items in
    let main = c.args.code.now.main in
    let start = configuration c.in_ok-memory.memory c.start_state.result in
    let starts = starts_as words main start c.in_ok-memory.ensures.fits c.in_ok-memory.ensures.ok c.start_state.ensures in
    let end = ended c.in_ok-steps.steps (growing c.run_home.new.memory) in
    run_ends words main c.args.limit start starts end (growing c.complete.new.memory) c.in_ok-steps.ensures.ok c.in_ok-complete.ensures.ok
