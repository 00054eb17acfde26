use Rattle.std.proofs.Common.{◌≡◌, ◌<◌, ◌≤◌, length, slice_get, slice_index_or, Some, refl, rules}
use Rattle.std.proofs.lemmas.Option.{slice_get_read}
use Rattle.desk_core.proofs.SameLists.{no_tasks, none_either, one_further, one_missing, pies_at, tasks_at}
use Rattle.desk_core.proofs.same_tasks.same_at.Goals as goal

pub returns-in-Some-Some-clause-pies : goal.returns-in-Some-Some-clause-pies
returns-in-Some-Some-clause-pies c =
    let lt : c.args.index < length c.args.tasks.now = search rules in
    let is : c.in-Some-Some.task.now ≡ slice_index_or c.args.tasks.now c.args.index c.in-Some-Some.task.now = search rules in
    let lt' : c.args.index < length c.args.kept.now = search rules in
    let is' : c.in-Some-Some.job.now ≡ slice_index_or c.args.kept.now c.args.index c.in-Some-Some.job.now = search rules in
    let at : slice_get c.args.tasks.now c.args.index ≡ Some c.in-Some-Some.task.now = slice_get_read c.args.tasks.now (length c.args.tasks.now) c.args.index c.in-Some-Some.task.now refl lt is in
    let at' : slice_get c.args.kept.now c.args.index ≡ Some c.in-Some-Some.job.now = slice_get_read c.args.kept.now (length c.args.kept.now) c.args.index c.in-Some-Some.job.now refl lt' is' in
    let same = pies_at c.args.tasks.now c.args.kept.now c.args.index c.in-Some-Some.task.now c.in-Some-Some.job.now at at' in
    (λ told. same.1 (c.same_task.ensures.pies.0 told), λ at_index. c.same_task.ensures.pies.1 (same.0 at_index))

pub returns-in-Some-Some-clause-tasks : goal.returns-in-Some-Some-clause-tasks
returns-in-Some-Some-clause-tasks c =
    let lt : c.args.index < length c.args.tasks.now = search rules in
    let is : c.in-Some-Some.task.now ≡ slice_index_or c.args.tasks.now c.args.index c.in-Some-Some.task.now = search rules in
    let lt' : c.args.index < length c.args.kept.now = search rules in
    let is' : c.in-Some-Some.job.now ≡ slice_index_or c.args.kept.now c.args.index c.in-Some-Some.job.now = search rules in
    let at : slice_get c.args.tasks.now c.args.index ≡ Some c.in-Some-Some.task.now = slice_get_read c.args.tasks.now (length c.args.tasks.now) c.args.index c.in-Some-Some.task.now refl lt is in
    let at' : slice_get c.args.kept.now c.args.index ≡ Some c.in-Some-Some.job.now = slice_get_read c.args.kept.now (length c.args.kept.now) c.args.index c.in-Some-Some.job.now refl lt' is' in
    λ told. tasks_at c.args.tasks.now c.args.kept.now c.args.index c.in-Some-Some.task.now c.in-Some-Some.job.now at at' (c.same_task.ensures.tasks told)

pub returns-in-None-None-clause-pies : goal.returns-in-None-None-clause-pies
returns-in-None-None-clause-pies c =
    let past : length c.args.tasks.now ≤ c.args.index = search rules in
    let past' : length c.args.kept.now ≤ c.args.index = search rules in
    (λ told. none_either c.args.tasks.now c.args.kept.now c.args.index past past', λ same. search rules)

pub returns-in-None-None-clause-tasks : goal.returns-in-None-None-clause-tasks
returns-in-None-None-clause-tasks c =
    let past : length c.args.tasks.now ≤ c.args.index = search rules in
    let past' : length c.args.kept.now ≤ c.args.index = search rules in
    λ told. no_tasks c.args.tasks.now c.args.kept.now c.args.index past past'

pub returns-in_default-clause-pies : goal.returns-in_default-clause-pies
returns-in_default-clause-pies c =
    let lt : c.args.index < length c.args.tasks.now = search rules in
    let past : length c.args.kept.now ≤ c.args.index = search rules in
    (λ never. absurd (cc), λ same. absurd (one_further c.args.tasks.now c.args.kept.now c.args.index lt past same))

pub returns-in_default-2-clause-pies : goal.returns-in_default-2-clause-pies
returns-in_default-2-clause-pies c =
    let past : length c.args.tasks.now ≤ c.args.index = search rules in
    let lt : c.args.index < length c.args.kept.now = search rules in
    (λ never. absurd (cc), λ same. absurd (one_missing c.args.tasks.now c.args.kept.now c.args.index past lt same))
