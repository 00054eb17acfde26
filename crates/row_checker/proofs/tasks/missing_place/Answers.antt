use Rattle.std.proofs.Common.{◌≡◌, slice_get, Some, None, rules}
use Rattle.boot_program.specs.Faults.Tasks.{ShowsTask, TaskStands}
use Rattle.row_checker.specs.Working.Tasks.{ShowsPlaced, StandsAt}
use Rattle.row_checker.proofs.Frames.{if_none, if_some}
use Rattle.row_checker.proofs.Showing.{no_mark_fails, no_mark_shows, no_task_fails, no_task_shows, placed_fails, placed_shows, stands_at}
use Rattle.row_checker.proofs.tasks.missing_place.Goals as goal

pub returns-in_default-clause-fails : goal.returns-in_default-clause-fails
returns-in_default-clause-fails c =
    let none : slice_get c.args.cert.now.tasks c.args.index ≡ None = search rules in
    no_mark_fails c.args.cert.now c.args.tasks.now c.args.index none

pub returns-in_default-clause-shown : goal.returns-in_default-clause-shown
returns-in_default-clause-shown c =
    let none : slice_get c.args.cert.now.tasks c.args.index ≡ None = search rules in
    no_mark_shows c.args.cert.now c.args.tasks.now c.args.index none _ _ c.whole_task.ensures.segment c.whole_task.ensures.offset

pub returns-in_default-task_at-clause-fails : goal.returns-in_default-task_at-clause-fails
returns-in_default-task_at-clause-fails c =
    let none : slice_get c.args.tasks.now c.args.index ≡ None = search rules in
    no_task_fails c.args.cert.now c.args.tasks.now c.args.index none

pub returns-in_default-task_at-clause-shown : goal.returns-in_default-task_at-clause-shown
returns-in_default-task_at-clause-shown c =
    let none : slice_get c.args.tasks.now c.args.index ≡ None = search rules in
    no_task_shows c.args.cert.now c.args.tasks.now c.args.index none _ _ c.whole_task-in_default-task_at.ensures.segment c.whole_task-in_default-task_at.ensures.offset

pub returns-clause-none : goal.returns-clause-none
returns-clause-none c =
    let is_mark : slice_get c.args.cert.now.tasks c.args.index ≡ Some c.in-Some.mark.now = search rules in
    let is_task : slice_get c.args.tasks.now c.args.index ≡ Some c.in-Some-task_at.task.now = search rules in
    if_none (StandsAt c.args.cert.now c.in-Some.mark.now c.in-Some-task_at.task.now) (TaskStands c.args.cert.now c.args.tasks.now c.args.index) c.missing_of.result
    (stands_at c.args.cert.now c.args.tasks.now c.args.index c.in-Some.mark.now c.in-Some-task_at.task.now is_mark is_task) c.missing_of.ensures.none

pub returns-clause-fails : goal.returns-clause-fails
returns-clause-fails c =
    let is_mark : slice_get c.args.cert.now.tasks c.args.index ≡ Some c.in-Some.mark.now = search rules in
    let is_task : slice_get c.args.tasks.now c.args.index ≡ Some c.in-Some-task_at.task.now = search rules in
    if_some (λ _. ¬ StandsAt c.args.cert.now c.in-Some.mark.now c.in-Some-task_at.task.now) (λ _. ¬ TaskStands c.args.cert.now c.args.tasks.now c.args.index) c.missing_of.result
    (λ _. placed_fails c.args.cert.now c.args.tasks.now c.args.index c.in-Some.mark.now c.in-Some-task_at.task.now is_mark is_task) c.missing_of.ensures.fails

pub returns-clause-shown : goal.returns-clause-shown
returns-clause-shown c =
    let is_mark : slice_get c.args.cert.now.tasks c.args.index ≡ Some c.in-Some.mark.now = search rules in
    let is_task : slice_get c.args.tasks.now c.args.index ≡ Some c.in-Some-task_at.task.now = search rules in
    if_some (λ at. ShowsPlaced c.args.cert.now c.in-Some.mark.now c.in-Some-task_at.task.now at.segment at.offset) (λ at. ShowsTask c.args.cert.now c.args.tasks.now c.args.index at.segment at.offset) c.missing_of.result
    (λ at. placed_shows c.args.cert.now c.args.tasks.now c.args.index c.in-Some.mark.now c.in-Some-task_at.task.now is_mark is_task at.segment at.offset) c.missing_of.ensures.shown
